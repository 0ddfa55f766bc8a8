use Rattle.rkyv_keys.specs.{hash_at}
use Rattle.rkyv_collections.proofs.WalkedPairs.{walks_visit_each, walks_visit_pairs}
use Rattle.rkyv_collections.proofs.std_maps.nested.nested_walks_visit_each.Goals as goal

pub returns-clause-homes : goal.returns-clause-homes
returns-clause-homes g c =
    walks_visit_pairs g.W.Word.word g.A.Archived.HasSpec.spec g.B.Archived.HasSpec.spec g.A.Archived.Represents.represents g.R.WrittenRelation.related (hash_at g.H.KeyHasher.hasher g.A.Archived.KeyElement.key_calls)

pub returns-clause-pairs : goal.returns-clause-pairs
returns-clause-pairs g c =
    walks_visit_each g.W.Word.word g.A.Archived.HasSpec.spec g.B.Archived.HasSpec.spec g.A.Archived.Represents.represents g.R.WrittenRelation.related (hash_at g.H.KeyHasher.hasher g.A.Archived.KeyElement.key_calls)
