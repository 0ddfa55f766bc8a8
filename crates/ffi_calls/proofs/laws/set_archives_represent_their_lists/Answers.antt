use Rattle.std.proofs.Common.{subst, sym}
use Rattle.rkyv_base.specs.{unit_represents, unit_spec}
use Rattle.rkyv_collections.specs.{MapRepresents, map_root}
use Rattle.ffi_calls.specs.{IsArchiveOf, fx_hash_at}
use Rattle.ffi_calls.proofs.Members.{with_units_of_keys}
use Rattle.ffi_calls.proofs.laws.set_archives_represent_their_lists.Goals as goal

pub returns : goal.returns
unfolding IsArchiveOf
returns g c = λ pairs b written.
    let w = g.W.Word.word in
    let k = g.A.Archived.HasSpec.spec in (
      written.0,
      subst (MapRepresents w k unit_spec g.A.Archived.Represents.represents unit_represents (fx_hash_at g.A.Archived.KeyElement.key_calls) (7, 8) b (map_root w k unit_spec b)) (sym (with_units_of_keys pairs)) written.1,
    )
