use Rattle.rkyv_table.proofs.Written.{found_written}
use Rattle.rkyv_table.proofs.controls.laws.found_on_written.Goals as goal
use Rattle.std.proofs.Common.{arith}
use Rattle.std.proofs.lemmas.Grind.{common_steps}

pub returns : goal.returns
returns c = grind (arith, common_steps, found_written)
