-- The format of byte strings: the bytes in one piece, and two words with the distance and the
-- length.
use Rattle.std.specs.Prelude.{FitsSigned, List, length, pos, ℕ, ℤ, ◌++◌, ◌-ℤ◌, ◌<◌, ◌^◌, ◌≡◌, ◌≤◌}
use Rattle.std.specs.Prelude.{◌⊎◌}
use Rattle.std.specs.Int.{Width, cast_unsigned, to_le_bytes}
use mir.Val.{bits}
use Rattle.rkyv_base.specs.declared.bytes.BytesResolver.{BytesResolver}
use Rattle.rkyv_base.specs.Writing.{Only, Step, piece}
use Rattle.rkyv_base.specs.Formats.{Format}
use Rattle.rkyv_base.specs.Text.{text_size}

-- the length of the byte string `t` fits in a word. A longer one doesn't fit in an archive
abbrev pub HasWordLength : Width → List ℕ → Type 0
HasWordLength w t = length t < 2 ^ bits w

-- the fixed bytes of a byte string of `n` bytes at a distance
abbrev pub byte_string_words : Width → ℤ → ℕ → List ℕ
byte_string_words w distance n = to_le_bytes w (cast_unsigned w distance) ++ to_le_bytes w n

-- `part`: the byte string itself
abbrev pub ByteStringParts : Width → List ℕ → ℕ → List ℕ → BytesResolver → Type 0
ByteStringParts w t p part r = HasWordLength w t × (part ≡ t) × (r.pos ≡ p)

-- `step`: the byte string in one piece
abbrev pub ByteStringNext : List ℕ → ℕ → List ℕ → Step → Type 0
ByteStringNext t p front step = Only (piece t) front step

-- `out`: fixed bytes of the byte string `t`. They may be any if its length doesn't fit in a word,
-- since such a byte string is never serialized
abbrev pub ByteStringImage : Width → List ℕ → BytesResolver → ℕ → List ℕ → Type 0
ByteStringImage w t r p out =
    (HasWordLength w t × FitsSigned w (pos r.pos -ℤ pos p)
    × (out ≡ byte_string_words w (pos r.pos -ℤ pos p) (length t)))
    ⊎ ((2 ^ bits w ≤ length t) × (length out ≡ text_size w))

-- the distance to the byte string doesn't fit
abbrev pub ByteStringOverflows : Width → List ℕ → BytesResolver → ℕ → Type 0
ByteStringOverflows w t r p = HasWordLength w t × (FitsSigned w (pos r.pos -ℤ pos p) → ⊥)

-- the format of a byte string: its bytes in one piece, and two words
-- with its distance and length
abbrev pub byte_string_format : Width → Format (List ℕ) BytesResolver
byte_string_format w = record {
  parts = ByteStringParts w;
  next = ByteStringNext;
  image = ByteStringImage w;
  overflow = ByteStringOverflows w;
}
