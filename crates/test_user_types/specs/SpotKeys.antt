-- Spots as keys.
use Rattle.std.specs.Prelude.{ℕ, Bool, ◌&&◌, List}
use Rattle.std.specs.Int.{w32}
use Rattle.std.specs.Ordering.{int_eq}
use Rattle.rkyv_scan.specs.{HasherCall, I32}
use Rattle.rkyv_base.specs.{signed}
use Rattle.rkyv_keys.specs.{Comparison, entry_calls, entry_fits, entry_same, one_call, pair_calls}
use Rattle.rkyv_keys.specs.{scalar_calls, scalar_fits, scalar_same}
use Rattle.test_user_types.specs.declared.spot.Spot.{Spot}
use Rattle.test_user_types.specs.Spot.{as_pair, int_spec}

-- the equality of spots at two positions
abbrev pub spot_same : Comparison
spot_same =
    entry_same int_spec int_spec (scalar_same (signed w32) int_eq) (scalar_same (signed w32) int_eq)

-- the hasher calls of the spot at a position
abbrev pub spot_key_calls : List ℕ → ℕ → List HasherCall
spot_key_calls = entry_calls int_spec int_spec (scalar_calls (signed w32) I32) (scalar_calls
    (signed w32) I32)

-- the hasher calls of a spot
abbrev pub spot_calls : Spot → List HasherCall
spot_calls spot = pair_calls (one_call I32) (one_call I32) (as_pair spot)

-- the spot equals the one at a position
abbrev pub spot_fits : Spot → List ℕ → ℕ → Bool
spot_fits spot = entry_fits int_spec int_spec (scalar_fits (signed w32) int_eq) (scalar_fits
    (signed w32) int_eq) (as_pair spot)

-- the equality of two spots
abbrev pub spot_eq : Spot → Spot → Bool
spot_eq a b = int_eq a.x b.x && int_eq a.y b.y
