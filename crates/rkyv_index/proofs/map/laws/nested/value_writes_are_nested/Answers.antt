use Rattle.rkyv_index.proofs.ValueWrites.{value_nested}
use Rattle.rkyv_index.proofs.map.laws.nested.value_writes_are_nested.Goals as goal

pub returns : goal.returns
returns g c = λ b d p i view below writes. value_nested _ g.met.W.Width.layout.kind _ _ g.K.HasSpec.laws g.V.HasSpec.laws b p view d i below writes
