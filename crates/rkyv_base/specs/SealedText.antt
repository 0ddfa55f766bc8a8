-- Text that is written in place.
use Rattle.std.specs.Prelude.{◌≡◌, ◌⊎◌, ℕ, Bool, true, false, MatchBool, List, length, map}
use Rattle.std.specs.Char.{to_ascii_uppercase}
use Rattle.std.specs.Int.{Width}
use Rattle.std.specs.Str.{IsUtf8}
use Rattle.rkyv_base.specs.Sealing.{with_bytes}
use Rattle.rkyv_base.specs.Text.{fixed_bytes, inline_text, is_out_of_line, text_at}

-- the text at `p` is out of line
abbrev pub IsOutOfLine : Width → List ℕ → ℕ → Type 0
IsOutOfLine w b p = is_out_of_line (fixed_bytes w b p) ≡ true

-- the text at `p` is inline
abbrev pub IsInline : Width → List ℕ → ℕ → Type 0
IsInline w b p = is_out_of_line (fixed_bytes w b p) ≡ false

-- the inline text at `p`
abbrev pub inline_at : Width → List ℕ → ℕ → List ℕ
inline_at w b p = inline_text (fixed_bytes w b p)

-- the text at `p` is inline, and is `text`
abbrev pub ReadsInline : Width → List ℕ → ℕ → List ℕ → Type 0
ReadsInline w b p text = IsInline w b p × (text ≡ text_at w b p)

-- the text at `p` is out of line, or isn't UTF-8
abbrev pub LacksInlineText : Width → List ℕ → ℕ → Type 0
LacksInlineText w b p = IsOutOfLine w b p ⊎ ¬ (IsUtf8 (inline_at w b p))

-- the text at `p` is UTF-8 if it is inline
abbrev pub IsUtf8IfInline : Width → List ℕ → ℕ → Type 0
IsUtf8IfInline w b p = IsInline w b p → IsUtf8 (inline_at w b p)

-- the bytes `b`, with the inline text at `p` in upper case
abbrev pub with_uppercase : Width → List ℕ → ℕ → List ℕ
with_uppercase w b p = with_bytes b p (length (inline_at w b p))
    (map to_ascii_uppercase (inline_at w b p))

-- `c`: bytes `b` with the text at `p` in upper case, if it is inline, and else `b` itself
abbrev pub Uppercases : Width → List ℕ → ℕ → List ℕ → Bool → Type 0
Uppercases w b p c inline = MatchBool inline (IsInline w b p × (c ≡ with_uppercase w b p))
    (IsOutOfLine w b p × (c ≡ b))
