use Rattle.std.proofs.Common.{arith}
use Rattle.std.proofs.lemmas.Grind.{common_steps}
use Rattle.rkyv_table.proofs.ValidTable.{controls_count}
use Rattle.rkyv_table.proofs.Walks.{walk_none}
use Rattle.rkyv_table.proofs.table.ArchivedHashTable.walk.Goals as goal

pub returns-then-self-eq0 : goal.returns-then-self-eq0
returns-then-self-eq0 g c = grind (arith, common_steps, walk_none)

pub new-requires-clause-some : goal.new-requires-clause-some
new-requires-clause-some g c = grind (arith, controls_count)
