use Rattle.std.proofs.Common.{◌∙◌}
use Rattle.rkyv_base.specs.{unit_represents}
use Rattle.rkyv_table.specs.{with_units}
use Rattle.rkyv_keys.specs.{native_pairs}
use Rattle.rkyv_collections.specs.{set_bytes}
use Rattle.rkyv_collections.proofs.ListArchives.{member_listed}
use Rattle.rkyv_collections.proofs.ListedLookups.{lookups_listed}
use Rattle.rkyv_collections.proofs.set.laws.lookups_find_listed.Goals as goal

pub returns : goal.returns
returns g c = λ set factor items query found represents finds_first.
    let b = set_bytes set in
    let listed = lookups_listed _ _ _ _ (native_pairs g.K.Represents.represents unit_represents g.H.KeyHasher.hasher g.K.KeyElement.key_calls) set.map (g.Q.Query.fits query b) (g.Q.NativeQuery.equals query) factor (with_units items)
    (λ a q valid there. g.met.Q.NativeQuery.finds query a b q valid there) represents in
    listed.contains found finds_first ∙ member_listed (g.Q.NativeQuery.equals query) items
