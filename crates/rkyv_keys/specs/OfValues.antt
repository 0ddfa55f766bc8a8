-- Elements with one value at a position, which is compared and hashed as a whole:
-- scalars, text and the unit value.
use Rattle.std.specs.Prelude.{◌≡◌, ℕ, Bool, List}
use Rattle.rkyv_scan.specs.{HasherCall}
use Rattle.rkyv_keys.specs.Equality.{Comparison}

module _ {V : Type 0} (value_at : List ℕ → ℕ → V) where
  -- the values at both positions are equal
  abbrev pub values_same : (V → V → Bool) → Comparison
  values_same equal b p c q = equal (value_at b p) (value_at c q)

  -- the calls of the value at position `p`
  abbrev pub value_calls : (V → List HasherCall) → List ℕ → ℕ → List HasherCall
  value_calls calls b p = calls (value_at b p)

  -- the value at position `p` is equal to that of the query `q`
  abbrev pub value_fits : {Q : Type 0} → (V → V → Bool) → (Q → V) → Q → List ℕ → ℕ → Bool
  value_fits equal as_value q b p = equal (as_value q) (value_at b p)

  -- the value at position `p` is that of the value `q`
  abbrev pub ValueRepresents : {Q : Type 0} → (Q → V) → List ℕ → ℕ → Q → Type 0
  ValueRepresents as_value b p q = value_at b p ≡ as_value q
