use Rattle.std.proofs.Common.{arith}
use Rattle.std.proofs.lemmas.Grind.{common_steps}
use Rattle.std.proofs.lemmas.List.{length_push}
use Rattle.rkyv_table.proofs.PlacingSteps.{yields_more}
use Rattle.rkyv_table.proofs.table.write.take_two.count_rest.Goals as goal

pub loop-count-preserved : goal.loop-count-preserved
loop-count-preserved g c = grind (arith, common_steps, length_push, yields_more)
