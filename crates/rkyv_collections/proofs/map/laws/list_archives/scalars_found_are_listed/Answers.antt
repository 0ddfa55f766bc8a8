use Rattle.rkyv_keys.specs.{found_scalars, hash_at, native_keys}
use Rattle.rkyv_keys.specs.Lemmas.FirstPairs.{scalar_by_view}
use Rattle.rkyv_collections.proofs.ListArchives.{found_listed}
use Rattle.rkyv_collections.proofs.map.laws.list_archives.scalars_found_are_listed.Goals as goal

pub returns : goal.returns
returns g c =
    let keys = native_keys g.K.Represents.represents (hash_at g.H.KeyHasher.hasher g.K.KeyElement.key_calls) g.Q.Query.fits g.Q.NativeQuery.equals in
    found_listed _ _ _ _ keys g.met.Q.NativeQuery.finds (found_scalars g.N.Scalar.encoding) (scalar_by_view g.N.Scalar.encoding)
