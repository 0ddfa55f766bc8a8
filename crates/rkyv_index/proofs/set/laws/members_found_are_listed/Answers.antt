use Rattle.rkyv_keys.specs.{hash_at, native_keys}
use Rattle.rkyv_index.proofs.ListArchives.{members_listed}
use Rattle.rkyv_index.proofs.set.laws.members_found_are_listed.Goals as goal

pub returns : goal.returns
returns g c =
    let keys = native_keys g.K.Represents.represents (hash_at g.H.KeyHasher.hasher g.K.KeyElement.key_calls) g.Q.Query.fits g.Q.NativeQuery.equals in
    members_listed _ _ g.met.W.Width.layout.kind _ keys g.met.Q.NativeQuery.finds
