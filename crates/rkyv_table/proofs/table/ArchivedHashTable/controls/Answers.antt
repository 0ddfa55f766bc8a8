use Rattle.std.proofs.Common.{arith}
use Rattle.rkyv_table.proofs.ValidTable.{controls_inside}
use Rattle.rkyv_table.proofs.table.ArchivedHashTable.controls.Goals as goal

pub controls_from-requires : goal.controls_from-requires
controls_from-requires g c = grind (arith, controls_inside)
