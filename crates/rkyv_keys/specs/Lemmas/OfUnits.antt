-- Lemmas: the unit value, which is valid at every position and makes no call.
use Rattle.std.proofs.Common.{refl, arith}
use Rattle.std.proofs.lemmas.Grind.{common_steps}
use Rattle.rkyv_base.specs.{unit_represents, unit_spec}
use Rattle.rkyv_keys.specs.{DecidesEquality, FitsItsEqual, IsEquivalence, IsKey, IsQuery}
use Rattle.rkyv_keys.specs.{MakesFixedCalls, no_calls, unit_at, unit_calls}
use Rattle.rkyv_keys.specs.{unit_fits, unit_same, units_equal}
use Rattle.rkyv_keys.specs.Lemmas.Fixed.{none_fixed}
use Rattle.rkyv_keys.specs.Lemmas.OfValues.{value_equivalence, value_key, value_query}

units_decide_equality : DecidesEquality units_equal
units_decide_equality v w = (λ e. refl, λ e. refl)

pub unit_equivalence : IsEquivalence unit_spec unit_same
unit_equivalence = value_equivalence unit_spec unit_at units_equal units_decide_equality

pub unit_key : IsKey unit_spec unit_same unit_calls
unit_key = grind (arith, common_steps, value_key, units_decide_equality)

pub unit_fixed : MakesFixedCalls unit_spec unit_calls
unit_fixed b p h = none_fixed

pub unit_query : IsQuery unit_spec unit_same unit_calls no_calls unit_fits
unit_query = value_query unit_spec unit_at units_equal units_decide_equality no_calls (λ v. v)

pub unit_fits_its_equal : FitsItsEqual unit_spec unit_represents units_equal unit_fits
unit_fits_its_equal q v b p h st = refl
