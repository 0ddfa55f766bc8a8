use Rattle.std.proofs.Common.{◌∙◌}
use Rattle.rkyv_base.specs.{unit_represents, unit_spec}
use Rattle.rkyv_table.specs.{with_units}
use Rattle.rkyv_collections.specs.{map_bytes}
use Rattle.rkyv_keys.specs.{hash_at, native_keys}
use Rattle.rkyv_collections.proofs.FoundPairs.{contains_listed}
use Rattle.rkyv_collections.proofs.ListArchives.{first_in_root, member_listed}
use Rattle.rkyv_collections.proofs.set.laws.members_found_are_listed.Goals as goal

pub returns : goal.returns
returns g c = λ set root archive factor items query found there at is finds_first.
    let k = g.K.HasSpec.spec in
    let keys = native_keys g.K.Represents.represents (hash_at g.H.KeyHasher.hasher g.K.KeyElement.key_calls) g.Q.Query.fits g.Q.NativeQuery.equals in
    let first = first_in_root set.map keys unit_represents g.met.Q.NativeQuery.finds archive factor (with_units items) query (there.0 ∙ at.0, there.1 ∙ at.1) is in
    contains_listed k unit_spec keys.represents unit_represents (map_bytes set.map) _ _ found first.pair (finds_first first.homes first.written)
    ∙ member_listed (g.Q.NativeQuery.equals query) items
