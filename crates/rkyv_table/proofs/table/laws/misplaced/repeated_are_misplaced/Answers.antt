use Rattle.rkyv_table.proofs.Misplaced.{repeated_misplaced}
use Rattle.rkyv_table.proofs.table.laws.misplaced.repeated_are_misplaced.Goals as goal
use Rattle.std.proofs.Common.{arith}
use Rattle.std.proofs.lemmas.Grind.{common_steps}

pub returns : goal.returns
returns c = grind (arith, common_steps, repeated_misplaced)
