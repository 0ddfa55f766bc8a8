use Rattle.rkyv_keys.specs.{found_views, hash_at, native_keys, native_pairs}
use Rattle.rkyv_keys.specs.Lemmas.FirstPairs.{view_by_view}
use Rattle.rkyv_collections.proofs.ListArchives.{found_listed}
use Rattle.rkyv_collections.proofs.ListedLookups.{lookups_listed}
use Rattle.rkyv_collections.proofs.std_maps.nested.nested_lookups_find_listed.Goals as goal

pub returns-clause-maps : goal.returns-clause-maps
returns-clause-maps g c = lookups_listed _ _ _ _ (native_pairs g.A.Archived.Represents.represents g.R.WrittenRelation.related g.H.KeyHasher.hasher g.A.Archived.KeyElement.key_calls)

pub returns-clause-root : goal.returns-clause-root
returns-clause-root g c =
    let keys = native_keys g.A.Archived.Represents.represents (hash_at g.H.KeyHasher.hasher g.A.Archived.KeyElement.key_calls) g.Q.Query.fits g.Q.NativeQuery.equals in
    found_listed _ _ _ _ keys g.met.Q.NativeQuery.finds (found_views g.R.WrittenRelation.related) (view_by_view g.R.WrittenRelation.related)
