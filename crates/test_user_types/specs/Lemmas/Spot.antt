-- Lemmas: spots are elements, and their format is that of the pair of their coordinates.
use Rattle.std.proofs.Common.{inl, inr, refl}
use Rattle.std.specs.Int.{w32}
use Rattle.rkyv_base.specs.{IsElement, IsFormat, IsScalar, IsWord, PairRepresents}
use Rattle.rkyv_base.specs.{RepresentsLocally, ScalarRepresents, pair_format, scalar_format, signed}
use Rattle.rkyv_base.specs.Lemmas.Entry.{entry_element}
use Rattle.rkyv_base.specs.Lemmas.Numbers.{signed_codes}
use Rattle.rkyv_base.specs.Lemmas.Pairs.{pair_is_format, pair_local, written_as-format}
use Rattle.rkyv_base.specs.Lemmas.Scalar.{scalar_element, scalar_is_format, scalar_laws}
use Rattle.rkyv_base.specs.Lemmas.Scalar.{scalar_local}
use Rattle.test_user_types.specs.Spot.{SpotRepresents, as_pair, int_spec, spot_format, spot_spec}

pub int_word : IsWord w32
int_word = inr (inr (inl refl))

pub int_element : IsElement int_spec
int_element = scalar_element (signed w32) int_word (signed_codes w32)

pub int_laws : IsScalar int_spec (signed w32)
int_laws = scalar_laws (signed w32) int_word

pub spot_element : IsElement spot_spec
spot_element = entry_element int_spec int_spec int_element int_element

pub spot_local : RepresentsLocally spot_spec SpotRepresents
spot_local spot =
    pair_local int_spec int_spec int_element int_element (ScalarRepresents (signed w32))
    (ScalarRepresents (signed w32))
    (scalar_local int_spec (signed w32) int_laws) (scalar_local int_spec (signed w32) int_laws)
    (as_pair spot)

pub spot_is_format : IsFormat spot_spec SpotRepresents spot_format
spot_is_format =
    written_as-format as_pair spot_spec
    (PairRepresents int_spec int_spec (ScalarRepresents (signed w32))
    (ScalarRepresents (signed w32)))
    (pair_format int_spec int_spec (scalar_format (signed w32)) (scalar_format (signed w32)))
    (pair_is_format int_spec int_spec int_element int_element (ScalarRepresents (signed w32))
    (ScalarRepresents (signed w32)) (scalar_format (signed w32))
    (scalar_format (signed w32)) (scalar_is_format int_spec (signed w32) int_laws)
    (scalar_is_format int_spec (signed w32) int_laws))
