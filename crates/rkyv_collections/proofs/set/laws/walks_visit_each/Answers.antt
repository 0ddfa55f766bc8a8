use Rattle.rkyv_keys.specs.{hash_at}
use Rattle.rkyv_collections.proofs.WalkedPairs.{set_walks_visit_each}
use Rattle.rkyv_collections.proofs.set.laws.walks_visit_each.Goals as goal

pub returns : goal.returns
returns g c = set_walks_visit_each g.W.Word.word g.K.HasSpec.spec g.K.Represents.represents (hash_at g.H.KeyHasher.hasher g.K.KeyElement.key_calls)
