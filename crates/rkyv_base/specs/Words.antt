-- Counts and distances, which are read back as they were written.
use Rattle.std.specs.Prelude.{◌≡◌, ◌<◌, ◌≤◌, ◌^◌, ℕ, ℤ, pos, ◌-ℤ◌, FitsSigned, List}
use Rattle.std.specs.Int.{Width, cast_unsigned, to_le_bytes, w64}
use mir.Val.{bits}
use Rattle.rkyv_base.specs.Bytes.{OccursAt, number_at, signed_at}
use Rattle.rkyv_base.specs.Layout.{wide_limit}

-- a count that fits in a word is read back wherever its bytes are
abbrev pub CountsReadBack : Width → Type 0
CountsReadBack w = (n : ℕ) (b : List ℕ) (p : ℕ) → n < 2 ^ bits w → OccursAt b p (to_le_bytes w n)
    → number_at w b p ≡ n

-- a distance that fits in a signed word is read back wherever its bytes are
abbrev pub DistancesReadBack : Width → Type 0
DistancesReadBack w = (d : ℤ) (b : List ℕ) (p : ℕ) → FitsSigned w d
    → OccursAt b p (to_le_bytes w (cast_unsigned w d)) → signed_at w b p ≡ d

-- the distance between two positions of a wide archive fits in its word
abbrev pub WideDistancesFit : Type 0
WideDistancesFit = (target from : ℕ) → target ≤ wide_limit → from ≤ wide_limit
    → FitsSigned w64 (pos target -ℤ pos from)
