-- Numbers and lists of bytes at a position of an archive.
use Rattle.std.specs.Prelude.{◌≡◌, ℕ, ◌+◌, ◌≤◌, ℤ, List, length, slice_range}
use Rattle.std.specs.Int.{Width, byte_len, cast_signed, from_le_bytes}

-- the little-endian number of width `w` at position `p`
abbrev pub number_at : Width → List ℕ → ℕ → ℕ
number_at w b p = from_le_bytes w (slice_range b p (p + byte_len w))

-- the signed number of width `w` at position `p`
abbrev pub signed_at : Width → List ℕ → ℕ → ℤ
signed_at w b p = cast_signed w (number_at w b p)

-- `b` and `c` have the same bytes from `i` on and below `j`
abbrev pub AgreeOn : List ℕ → List ℕ → ℕ → ℕ → Type 0
AgreeOn b c i j = slice_range b i j ≡ slice_range c i j

-- `part`: bytes of the archive `c` from position `p` on
pub record OccursAt (c : List ℕ) (p : ℕ) (part : List ℕ) : Type 0 where
  pub inside : p + length part ≤ length c
  pub there : slice_range c p (p + length part) ≡ part
