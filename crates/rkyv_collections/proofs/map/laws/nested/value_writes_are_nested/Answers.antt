use Rattle.rkyv_collections.proofs.NestedWrites.{value_nested}
use Rattle.rkyv_collections.proofs.map.laws.nested.value_writes_are_nested.Goals as goal

pub returns : goal.returns
returns g c = λ b d p i view walked writes. value_nested g.W.Word.word g.K.HasSpec.spec g.V.HasSpec.spec g.K.HasSpec.laws g.V.HasSpec.laws b d p i view walked writes
