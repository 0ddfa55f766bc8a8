use Rattle.rkyv_table.proofs.ItemLookups.{finds_only_item}
use Rattle.rkyv_table.proofs.table.laws.misplaced.none_misplaced_finds_only_item.Goals as goal

pub returns : goal.returns
returns g c = finds_only_item g.W.Word.word g.T.HasSpec.spec g.T.HasSpec.laws
