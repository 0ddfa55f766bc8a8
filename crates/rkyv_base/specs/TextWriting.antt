-- The format of text: inline, filled up with ff, if it fits in the fixed bytes,
-- and else in one piece out of line.
use Rattle.std.specs.Prelude.{FitsSigned, List, [], length, pos, replicate, ℕ, ℤ, ◌%◌, ◌*◌, ◌++◌}
use Rattle.std.specs.Prelude.{◌+◌, ◌-ℤ◌, ◌-◌, ◌/◌, ◌<◌, ◌^◌, ◌≡◌, ◌≤◌, ◌⊎◌}
use Rattle.std.specs.Int.{Width, cast_unsigned, to_le_bytes}
use Rattle.std.specs.Str.{IsUtf8}
use mir.Val.{bits}
use Rattle.rkyv_base.specs.declared.strings.TextResolver.{TextResolver}
use Rattle.rkyv_base.specs.Writing.{Only, Step, failure, long_text, piece}
use Rattle.rkyv_base.specs.Formats.{Format}
use Rattle.rkyv_base.specs.Text.{text_size}

-- the least length of a text that can't be written
abbrev pub text_limit : Width → ℕ
text_limit w = 2 ^ bits w / 4

-- the text `t` is inline
abbrev pub IsShort : Width → List ℕ → Type 0
IsShort w t = length t ≤ text_size w

-- the text `t` is out of line
abbrev pub IsLong : Width → List ℕ → Type 0
IsLong w t = (text_size w < length t) × (length t < text_limit w)

-- the text `t` can't be written
abbrev pub IsTooLong : Width → List ℕ → Type 0
IsTooLong w t = text_limit w ≤ length t

-- the first word of an out-of-line text of `n` bytes
abbrev pub length_word : ℕ → ℕ
length_word n = n % 64 + 128 + n / 64 * 256

-- the text, filled up with ff
abbrev pub inline_bytes : ℕ → List ℕ → List ℕ
inline_bytes size t = t ++ replicate (size - length t) 255

-- the fixed bytes of an out-of-line text of `n` bytes at a distance
abbrev pub out_of_line_bytes : Width → ℕ → ℤ → List ℕ
out_of_line_bytes w n distance =
    to_le_bytes w (length_word n) ++ to_le_bytes w (cast_unsigned w distance)

-- `part`: the text itself if it is out of line, and else no bytes
abbrev pub TextParts : Width → List ℕ → ℕ → List ℕ → TextResolver → Type 0
TextParts w t p part r =
    IsUtf8 t × ((IsShort w t × (part ≡ []) × (r.pos ≡ 0)) ⊎ (IsLong w t × (part ≡ t) × (r.pos ≡ p)))

-- `step`: the text in one piece if it is out of line, or the error for a text that is too long
abbrev pub TextNext : Width → List ℕ → ℕ → List ℕ → Step → Type 0
TextNext w t p front step = (IsLong w t × Only (piece t) front step)
    ⊎ (IsTooLong w t × Only (failure long_text) front step)

-- `out`: fixed bytes of the text `t`. They may be any if it is too long,
-- since such a text is never serialized
abbrev pub TextImage : Width → List ℕ → TextResolver → ℕ → List ℕ → Type 0
TextImage w t r p out =
    (IsShort w t × (out ≡ inline_bytes (text_size w) t))
    ⊎ (IsLong w t × FitsSigned w (pos r.pos -ℤ pos p)
    × (out ≡ out_of_line_bytes w (length t) (pos r.pos -ℤ pos p)))
    ⊎ (IsTooLong w t × (length out ≡ text_size w))

-- the distance to the out-of-line text doesn't fit
abbrev pub TextOverflows : Width → List ℕ → TextResolver → ℕ → Type 0
TextOverflows w t r p = IsLong w t × (FitsSigned w (pos r.pos -ℤ pos p) → ⊥)

-- the format of a text: inline, or its bytes in one piece and two words
-- with its length and distance
abbrev pub text_format : Width → Format (List ℕ) TextResolver
text_format w = record {
  parts = TextParts w;
  next = TextNext w;
  image = TextImage w;
  overflow = TextOverflows w;
}
