-- Text in an archive: inline in its fixed bytes, or out of line, with a length and a distance.
use Rattle.std.specs.Prelude.{◌≡◌, ℕ, ◌+◌, ◌*◌, ◌/◌, ◌%◌, ◌<◌, ◌≤◌, ◌⊎◌, ◌==◌, ◌&&◌, ℤ, pos, ◌+ℤ◌}
use Rattle.std.specs.Prelude.{unsigned_abs, Bool, true, false, nat_le, nat_lt, if◌then◌else◌, List}
use Rattle.std.specs.Prelude.{slice_index, slice_range}
use Rattle.std.specs.List.{before_first}
use Rattle.std.specs.Int.{Width, byte_len, w32, w64}
use Rattle.std.specs.Str.{IsUtf8}
use Rattle.rkyv_base.specs.declared.errors.VerifyError.{VerifyError}
use Rattle.rkyv_base.specs.declared.errors.VerifyError.TheVariants.{InvalidValue}
use Rattle.rkyv_base.specs.Bytes.{number_at, signed_at}
use Rattle.rkyv_base.specs.ElementSpecs.{ElementSpec}
use Rattle.rkyv_base.specs.Parts.{PartFails, PartIn}

-- the number of fixed bytes of a text, with words of width `w`
abbrev pub text_size : Width → ℕ
text_size w = 2 * byte_len w

-- the fixed bytes of the text at `p`
abbrev pub fixed_bytes : Width → List ℕ → ℕ → List ℕ
fixed_bytes w b p = slice_range b p (p + text_size w)

-- the fixed bytes are of out-of-line text: the first has the form 10xxxxxx
abbrev pub is_out_of_line : List ℕ → Bool
is_out_of_line s = nat_le 128 (slice_index s 0) && nat_lt (slice_index s 0) 192

-- the inline text: the fixed bytes before the first ff
abbrev pub inline_text : List ℕ → List ℕ
inline_text s = before_first (λ x. x == 255) s

-- the length that the first word `u` encodes
abbrev pub decode_length : ℕ → ℕ
decode_length u = u % 64 + u / 256 * 64

-- the length of out-of-line text
abbrev pub out_of_line_length : Width → List ℕ → ℕ
out_of_line_length w s = decode_length (number_at w s 0)

-- the start of out-of-line text. Its distance is in the second word
abbrev pub out_of_line_begin : Width → List ℕ → ℕ → ℤ
out_of_line_begin w s p = pos p +ℤ signed_at w s (byte_len w)

-- the out-of-line text whose fixed bytes `s` are at `p`
abbrev pub out_of_line_text : Width → List ℕ → List ℕ → ℕ → List ℕ
out_of_line_text w s b p = slice_range b (unsigned_abs (out_of_line_begin w s p))
    (unsigned_abs (out_of_line_begin w s p) + out_of_line_length w s)

-- the text whose fixed bytes `s` are at `p`
unfoldable pub text_of : Width → List ℕ → List ℕ → ℕ → List ℕ
text_of w s b p = if is_out_of_line s then out_of_line_text w s b p else inline_text s

-- the text at `p`
abbrev pub text_at : Width → List ℕ → ℕ → List ℕ
text_at w b p = text_of w (fixed_bytes w b p) b p

-- the text at `p` is `t`
abbrev pub TextReads : Width → List ℕ → ℕ → List ℕ → Type 0
TextReads w b p t = text_at w b p ≡ t

-- the text at position `p` has the bytes of the value `q`
abbrev pub IsTextOf : {Q : Type 0} → Width → (Q → List ℕ) → List ℕ → ℕ → Q → Type 0
IsTextOf w as_value b p q = TextReads w b p (as_value q)

-- the fixed bytes `s` are a valid inline text, without parts
abbrev pub IsValidInline : List ℕ → ℕ → ℕ → Type 0
IsValidInline s lo l = (is_out_of_line s ≡ false) × IsUtf8 (inline_text s) × (l ≡ lo)

-- the fixed bytes `s` are of a valid out-of-line text: it is too long
-- to be inline, in the range, and UTF-8
abbrev pub IsValidOutOfLine : Width → List ℕ → List ℕ → ℕ → ℕ → ℕ → ℕ → Type 0
IsValidOutOfLine w s b p lo hi l =
    (is_out_of_line s ≡ true) × (text_size w < out_of_line_length w s)
    × (at : ℕ) × PartIn (out_of_line_begin w s p) (out_of_line_length w s) 1 lo hi at
    × IsUtf8 (slice_range b at (at + out_of_line_length w s)) × (l ≡ at + out_of_line_length w s)

-- the fixed bytes `s` at `p` are a valid text
abbrev pub IsValidText : Width → List ℕ → List ℕ → ℕ → ℕ → ℕ → ℕ → Type 0
IsValidText w s b p lo hi l = IsValidInline s lo l ⊎ IsValidOutOfLine w s b p lo hi l

-- `e`: fault of out-of-line text. It could be inline, or its part has a fault, or it isn't UTF-8
abbrev pub OutOfLineFails : Width → List ℕ → List ℕ → ℕ → ℕ → ℕ → VerifyError → Type 0
OutOfLineFails w s b p lo hi e =
    ((out_of_line_length w s ≤ text_size w) × (e ≡ InvalidValue p))
    ⊎ ((text_size w < out_of_line_length w s)
    × PartFails (out_of_line_begin w s p) (out_of_line_length w s) 1 lo hi e)
    ⊎ ((text_size w < out_of_line_length w s)
    × (at : ℕ) × PartIn (out_of_line_begin w s p) (out_of_line_length w s) 1 lo hi at
    × (IsUtf8 (slice_range b at (at + out_of_line_length w s)) → ⊥) × (e ≡ InvalidValue p))

-- `e`: fault of the fixed bytes `s` at `p`
abbrev pub TextFails : Width → List ℕ → List ℕ → ℕ → ℕ → ℕ → VerifyError → Type 0
TextFails w s b p lo hi e =
    ((is_out_of_line s ≡ false) × (IsUtf8 (inline_text s) → ⊥) × (e ≡ InvalidValue p))
    ⊎ ((is_out_of_line s ≡ true) × OutOfLineFails w s b p lo hi e)

-- text as an element: two words, aligned to one
abbrev pub text_spec : Width → ElementSpec
text_spec w = record {
  size = text_size w;
  align = byte_len w;
  is_valid = λ b p lo hi l. IsValidText w (fixed_bytes w b p) b p lo hi l;
  fails = λ b p lo hi e. TextFails w (fixed_bytes w b p) b p lo hi e;
}

-- a word of an archive
abbrev pub IsArchiveWord : Width → Type 0
IsArchiveWord w = (w ≡ w32) ⊎ (w ≡ w64)
