-- The header of a table: a distance, the length and the capacity, each of one word.
use Rattle.std.specs.Prelude.{◌≡◌, ℕ, ◌+◌, ◌*◌, ◌<◌, ◌⊎◌, ℤ, pos, unsigned_abs, ◌+ℤ◌, ◌-ℤ◌}
use Rattle.std.specs.Prelude.{FitsSigned, List}
use Rattle.std.specs.Prelude.{◌++◌}
use Rattle.std.specs.Int.{Width, byte_len, cast_unsigned, to_le_bytes}
use Rattle.rkyv_base.specs.{number_at, signed_at}

-- the number of items, as in the header at `p`
abbrev pub len_at : Width → List ℕ → ℕ → ℕ
len_at w b p = number_at w b (p + byte_len w)

-- the number of buckets, as in the header at `p`
abbrev pub cap_at : Width → List ℕ → ℕ → ℕ
cap_at w b p = number_at w b (p + 2 * byte_len w)

-- the position of the first control byte, by the header at position `p` of the bytes `b`
abbrev pub controls_pos : Width → List ℕ → ℕ → ℕ
controls_pos w b p = unsigned_abs (pos p +ℤ signed_at w b p)

-- the position at which the buckets begin, by the header at `p`, for items of `size` bytes
abbrev pub decode_begin : Width → ℕ → List ℕ → ℕ → ℤ
decode_begin w size b p = (pos p +ℤ signed_at w b p) -ℤ pos (cap_at w b p * size)

-- the bytes of a header
abbrev pub header_bytes : Width → ℤ → ℕ → ℕ → List ℕ
header_bytes w distance len cap =
    to_le_bytes w (cast_unsigned w distance) ++ (to_le_bytes w len ++ to_le_bytes w cap)

-- `out`: header at `p` of a table whose first control byte is at `z`. The distance
-- of an empty table is 1
pub record IsHeader (w : Width) (len cap z p : ℕ) (out : List ℕ) : Type 0 where
  pub distance : ℤ
  pub fits : FitsSigned w distance
  pub distance_value : ((len ≡ 0) × (distance ≡ pos 1)) ⊎ ((0 < len) × (distance ≡ pos z -ℤ pos p))
  pub is : out ≡ header_bytes w distance len cap

-- the distance from a header at `p` to the first control byte at `z` doesn't fit, and the table
-- isn't empty
abbrev pub HeaderOverflows : Width → ℕ → ℕ → ℕ → Type 0
HeaderOverflows w len z p = (0 < len) × (FitsSigned w (pos z -ℤ pos p) → ⊥)
