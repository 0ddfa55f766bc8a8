use Rattle.rkyv_keys.specs.{hash_at}
use Rattle.rkyv_collections.proofs.WalkedPairs.{walks_visit_each, walks_visit_pairs}
use Rattle.rkyv_collections.proofs.map.laws.walks_visit_each.Goals as goal

pub returns-clause-homes : goal.returns-clause-homes
returns-clause-homes g c =
    walks_visit_pairs g.W.Word.word g.K.HasSpec.spec g.V.HasSpec.spec g.K.Represents.represents g.V.Represents.represents (hash_at g.H.KeyHasher.hasher g.K.KeyElement.key_calls)

pub returns-clause-pairs : goal.returns-clause-pairs
returns-clause-pairs g c =
    walks_visit_each g.W.Word.word g.K.HasSpec.spec g.V.HasSpec.spec g.K.Represents.represents g.V.Represents.represents (hash_at g.H.KeyHasher.hasher g.K.KeyElement.key_calls)
