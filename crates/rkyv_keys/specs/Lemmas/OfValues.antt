-- Lemmas: elements with one value at a position, which is compared and hashed as a whole:
-- scalars, text and the unit value.
use Rattle.std.specs.Prelude.{◌≡◌, ℕ, Bool, true, List}
use Rattle.std.proofs.Common.{refl, sym, ap, arith}
use Rattle.std.proofs.lemmas.Grind.{common_steps}
use Rattle.rkyv_scan.specs.{HasherCall}
use Rattle.rkyv_base.specs.{ElementSpec, RepresentsLocally}
use Rattle.rkyv_keys.specs.Equality.{DecidesEquality, IsEquivalence}
use Rattle.rkyv_keys.specs.Keys.{FitsItsEqual, IsKey, IsQuery}
use Rattle.rkyv_keys.specs.OfValues.{ValueRepresents, value_calls, value_fits, values_same}

module _ {V : Type 0} (s : ElementSpec) (value_at : List ℕ → ℕ → V) (equal : V → V → Bool)
    (decides : DecidesEquality equal) where
  same_value : (v w : V) → equal v w ≡ true → v ≡ w
  same_value v w h = (decides v w).0 h

  value_same : (v w : V) → v ≡ w → equal v w ≡ true
  value_same v w h = (decides v w).1 h

  pub value_equivalence : IsEquivalence s (values_same value_at equal)
  value_equivalence = grind (arith, common_steps, value_same, same_value)

  module _ (calls : V → List HasherCall) where
    pub value_key : RepresentsLocally s (ValueRepresents value_at (λ v. v))
        → IsKey s (values_same value_at equal) (value_calls value_at calls)
    value_key rests = record {
      same_calls = λ b c p q h g s. ap calls (same_value (value_at b p) (value_at c q) s);
      local = λ b c p lo hi l o h fixed part. ap calls
          (sym (rests (value_at b p) b c p lo hi l o h fixed part refl));
      copied = λ b c p lo hi l o h fixed part. value_same (value_at b p) (value_at c p)
          (sym (rests (value_at b p) b c p lo hi l o h fixed part refl));
    }

    pub value_query : {Q : Type 0} (as_value : Q → V)
        → IsQuery s (values_same value_at equal) (value_calls value_at calls)
        (λ q. calls (as_value q)) (value_fits value_at equal as_value)
    value_query as_value = grind (arith, common_steps, same_value)

-- a query fits a key if and only if its value equals the one that the key represents
pub value_fits_its_equal : {V Q A : Type 0} (s : ElementSpec) (value_at : List ℕ → ℕ → V)
    (equal : V → V → Bool) (query_value : Q → V) (as_value : A → V)
    → FitsItsEqual s (ValueRepresents value_at as_value) (λ q a. equal (query_value q) (as_value a))
    (value_fits value_at equal query_value)
value_fits_its_equal s value_at equal query_value as_value q a b p h there =
    grind (arith, common_steps)
