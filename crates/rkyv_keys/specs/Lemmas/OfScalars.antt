-- Lemmas: scalars, by the value of the number at a position.
use Rattle.std.specs.Prelude.{Bool}
use Rattle.rkyv_scan.specs.{HasherCall, IsFixed}
use Rattle.rkyv_base.specs.{ElementSpec, Encoding, IsScalar, ScalarRepresents, value_at}
use Rattle.rkyv_base.specs.Lemmas.Scalar.{scalar_local}
use Rattle.rkyv_keys.specs.{DecidesEquality, FitsItsEqual, IsEquivalence, IsKey, IsQuery}
use Rattle.rkyv_keys.specs.{MakesFixedCalls, one_call, scalar_calls, scalar_fits}
use Rattle.rkyv_keys.specs.{scalar_same}
use Rattle.rkyv_keys.specs.Lemmas.Fixed.{one_fixed}
use Rattle.rkyv_keys.specs.Lemmas.OfValues.{value_equivalence, value_fits_its_equal, value_key}
use Rattle.rkyv_keys.specs.Lemmas.OfValues.{value_query}
use Rattle.std.proofs.Common.{arith}
use Rattle.std.proofs.lemmas.Grind.{common_steps}

module _ {V : Type 0} (s : ElementSpec) (e : Encoding V) where
  pub scalar_fixed : (call : V → HasherCall) → ((v : V) → IsFixed (call v))
      → MakesFixedCalls s (scalar_calls e call)
  scalar_fixed call fixed b p h = one_fixed (call (value_at e b p)) (fixed (value_at e b p))

  module _ (equal : V → V → Bool) where
    pub scalar_fits_its_equal : FitsItsEqual s (ScalarRepresents e) equal
        (scalar_fits e equal)
    scalar_fits_its_equal = value_fits_its_equal s (value_at e) equal (λ v. v) (λ v. v)

    module _ (decides : DecidesEquality equal) where
      pub scalar_equivalence : IsEquivalence s (scalar_same e equal)
      scalar_equivalence = value_equivalence s (value_at e) equal decides

      pub scalar_key : (call : V → HasherCall) → IsScalar s e
          → IsKey s (scalar_same e equal) (scalar_calls e call)
      scalar_key call laws = grind (arith, common_steps, value_key, scalar_local)

      pub scalar_query : (call : V → HasherCall)
          → IsQuery s (scalar_same e equal) (scalar_calls e call)
          (one_call call) (scalar_fits e equal)
      scalar_query call = grind (arith, common_steps, value_query)
