use Rattle.rkyv_table.proofs.SealedTable.{table_kept}
use Rattle.rkyv_table.proofs.table.laws.in_place.writes_keep_the_table.Goals as goal

pub returns : goal.returns
returns g c = λ b p i view walked d sealed keeps. table_kept g.W.Word.word g.T.HasSpec.spec g.T.HasSpec.laws b p i view walked d sealed keeps
