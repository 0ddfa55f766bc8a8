-- Lemmas: spots as keys.
use Rattle.std.specs.Cmp.{signed_Decides}
use Rattle.std.specs.Int.{w32}
use Rattle.std.specs.Ordering.{int_eq}
use Rattle.rkyv_scan.specs.{I32}
use Rattle.rkyv_base.specs.{ScalarRepresents, signed}
use Rattle.rkyv_keys.specs.{FitsItsEqual, IsEquivalence, IsKey, IsQuery, scalar_fits}
use Rattle.rkyv_keys.specs.Lemmas.OfEntries.{entry_equivalence, entry_fits_its_equal, entry_key}
use Rattle.rkyv_keys.specs.Lemmas.OfEntries.{entry_query}
use Rattle.rkyv_keys.specs.Lemmas.OfScalars.{scalar_equivalence, scalar_fits_its_equal, scalar_key}
use Rattle.rkyv_keys.specs.Lemmas.OfScalars.{scalar_query}
use Rattle.test_user_types.specs.Spot.{SpotRepresents, as_pair, int_spec, spot_spec}
use Rattle.test_user_types.specs.SpotKeys.{spot_calls, spot_eq, spot_fits, spot_key_calls}
use Rattle.test_user_types.specs.SpotKeys.{spot_same}
use Rattle.test_user_types.specs.Lemmas.Spot.{int_element, int_laws}

pub spot_equivalence : IsEquivalence spot_spec spot_same
spot_equivalence = entry_equivalence int_element int_element
    (scalar_equivalence int_spec (signed w32) int_eq signed_Decides)
    (scalar_equivalence int_spec (signed w32) int_eq signed_Decides)

pub spot_key : IsKey spot_spec spot_same spot_key_calls
spot_key = entry_key int_element int_element
    (scalar_key int_spec (signed w32) int_eq signed_Decides I32 int_laws)
    (scalar_key int_spec (signed w32) int_eq signed_Decides I32 int_laws)

pub spot_query : IsQuery spot_spec spot_same spot_key_calls spot_calls spot_fits
spot_query =
    let q = entry_query int_element int_element
    (scalar_query int_spec (signed w32) int_eq signed_Decides I32)
    (scalar_query int_spec (signed w32) int_eq signed_Decides I32) in
    record {
      same_calls = λ spot. q.same_calls (as_pair spot);
      respects_same = λ spot. q.respects_same (as_pair spot);
    }

pub spot_fits_its_equal : FitsItsEqual spot_spec SpotRepresents spot_eq spot_fits
spot_fits_its_equal a b bytes p h st =
    entry_fits_its_equal int_element int_element (ScalarRepresents (signed w32))
    (ScalarRepresents (signed w32)) int_eq int_eq (scalar_fits (signed w32) int_eq)
    (scalar_fits (signed w32) int_eq) (scalar_fits_its_equal int_spec (signed w32) int_eq)
    (scalar_fits_its_equal int_spec (signed w32) int_eq) (as_pair a) (as_pair b) bytes p h st
