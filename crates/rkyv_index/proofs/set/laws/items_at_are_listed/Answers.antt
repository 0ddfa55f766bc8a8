use Rattle.rkyv_keys.specs.{hash_at}
use Rattle.rkyv_index.proofs.ListedAt.{items_at}
use Rattle.rkyv_index.proofs.set.laws.items_at_are_listed.Goals as goal

pub returns : goal.returns
returns g c = items_at _ _ _ g.K.Represents.represents (hash_at g.H.KeyHasher.hasher g.K.KeyElement.key_calls)
