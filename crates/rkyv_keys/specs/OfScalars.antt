-- Scalars, by the value of the number at a position.
use Rattle.std.specs.Prelude.{ℕ, Bool, List, [], ◌∷◌}
use Rattle.rkyv_scan.specs.{HasherCall}
use Rattle.rkyv_base.specs.{Encoding, value_at}
use Rattle.rkyv_keys.specs.Equality.{Comparison}
use Rattle.rkyv_keys.specs.OfValues.{value_calls, value_fits, values_same}

-- the list of the one call of a scalar
abbrev pub one_call : {V : Type 0} → (V → HasherCall) → V → List HasherCall
one_call call v = call v ∷ []

module _ {V : Type 0} (e : Encoding V) where
  -- the scalars at both positions are equal
  abbrev pub scalar_same : (V → V → Bool) → Comparison
  scalar_same equal = values_same (value_at e) equal

  -- the one call of the scalar at a position
  abbrev pub scalar_calls : (V → HasherCall) → List ℕ → ℕ → List HasherCall
  scalar_calls call = value_calls (value_at e) (one_call call)

  -- the scalar at a position is equal to the query
  abbrev pub scalar_fits : (V → V → Bool) → V → List ℕ → ℕ → Bool
  scalar_fits equal = value_fits (value_at e) equal (λ v. v)
