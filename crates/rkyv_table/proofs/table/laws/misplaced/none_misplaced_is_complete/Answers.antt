use Rattle.rkyv_table.proofs.Misplaced.{complete}
use Rattle.rkyv_table.proofs.table.laws.misplaced.none_misplaced_is_complete.Goals as goal

pub returns : goal.returns
returns c = complete
