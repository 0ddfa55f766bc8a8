-- Byte strings in an archive: always out of line, with a distance and a length in two words.
use Rattle.std.specs.Prelude.{◌≡◌, ℕ, ◌+◌, ℤ, pos, ◌+ℤ◌, unsigned_abs, List, slice_range}
use Rattle.std.specs.Int.{Width, byte_len}
use Rattle.rkyv_base.specs.declared.errors.VerifyError.{VerifyError}
use Rattle.rkyv_base.specs.Bytes.{number_at, signed_at}
use Rattle.rkyv_base.specs.ElementSpecs.{ElementSpec}
use Rattle.rkyv_base.specs.Parts.{PartFails, PartIn}
use Rattle.rkyv_base.specs.Text.{fixed_bytes, text_size}

-- the start of the byte string whose fixed bytes `s` are at `p`. Its distance is in the first word
abbrev pub byte_string_begin : Width → List ℕ → ℕ → ℤ
byte_string_begin w s p = pos p +ℤ signed_at w s 0

-- the length of the byte string with the fixed bytes `s`, from the second word
abbrev pub byte_string_length : Width → List ℕ → ℕ
byte_string_length w s = number_at w s (byte_len w)

-- the byte string whose fixed bytes `s` are at `p`
unfoldable pub byte_string_of : Width → List ℕ → List ℕ → ℕ → List ℕ
byte_string_of w s b p = slice_range b (unsigned_abs (byte_string_begin w s p))
    (unsigned_abs (byte_string_begin w s p) + byte_string_length w s)

-- the byte string at `p`
abbrev pub byte_string_at : Width → List ℕ → ℕ → List ℕ
byte_string_at w b p = byte_string_of w (fixed_bytes w b p) b p

-- the byte string at `p` is `t`
abbrev pub ByteStringReads : Width → List ℕ → ℕ → List ℕ → Type 0
ByteStringReads w b p t = byte_string_at w b p ≡ t

-- the byte string at position `p` has the bytes of the value `q`
abbrev pub IsByteStringOf : {Q : Type 0} → Width → (Q → List ℕ) → List ℕ → ℕ → Q → Type 0
IsByteStringOf w as_value b p q = ByteStringReads w b p (as_value q)

-- the fixed bytes `s` at `p` are of a byte string in the range, whose bytes may be any
abbrev pub IsValidByteString : Width → List ℕ → ℕ → ℕ → ℕ → ℕ → Type 0
IsValidByteString w s p lo hi l =
    (at : ℕ) × PartIn (byte_string_begin w s p) (byte_string_length w s) 1 lo hi at
    × (l ≡ at + byte_string_length w s)

-- `e`: fault of the fixed bytes `s` at `p`, whose byte string is not in the range
abbrev pub ByteStringFails : Width → List ℕ → ℕ → ℕ → ℕ → VerifyError → Type 0
ByteStringFails w s p lo hi e =
    PartFails (byte_string_begin w s p) (byte_string_length w s) 1 lo hi e

-- a byte string as an element: two words, aligned to one
abbrev pub byte_string_spec : Width → ElementSpec
byte_string_spec w = record {
  size = text_size w;
  align = byte_len w;
  is_valid = λ b p lo hi l. IsValidByteString w (fixed_bytes w b p) p lo hi l;
  fails = λ b p lo hi e. ByteStringFails w (fixed_bytes w b p) p lo hi e;
}
