use Rattle.rkyv_table.proofs.SealedTable.{value_kept}
use Rattle.rkyv_table.proofs.table.laws.in_place.value_writes_keep_the_table.Goals as goal

pub returns : goal.returns
returns g c = λ b p i view walked d sealed keeps.
    value_kept g.W.Word.word g.K.HasSpec.spec g.V.HasSpec.spec g.K.HasSpec.laws g.V.HasSpec.laws b p i view walked d sealed keeps
