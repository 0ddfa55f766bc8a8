-- The unit value, which is valid at every position and makes no call.
use Rattle.std.specs.Prelude.{ℕ, Bool, true, List, []}
use Rattle.rkyv_scan.specs.{HasherCall}
use Rattle.rkyv_keys.specs.Equality.{Comparison}

-- the unit value at a position
abbrev pub unit_at : List ℕ → ℕ → Unit {0}
unit_at b p = tt

-- all unit values are equal
abbrev pub units_equal : Unit {0} → Unit {0} → Bool
units_equal v w = true

-- all unit values are the same
abbrev pub unit_same : Comparison
unit_same b p c q = true

-- the unit value makes no call
abbrev pub no_calls : Unit {0} → List HasherCall
no_calls v = []

-- an archived unit value makes no call
abbrev pub unit_calls : List ℕ → ℕ → List HasherCall
unit_calls b p = []

-- the unit value fits every archived unit value
abbrev pub unit_fits : Unit {0} → List ℕ → ℕ → Bool
unit_fits q b p = true
