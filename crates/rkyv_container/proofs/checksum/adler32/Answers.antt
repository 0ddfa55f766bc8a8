use Rattle.std.proofs.Common.{arith}
use Rattle.std.proofs.lemmas.Grind.{common_steps}
use Rattle.rkyv_container.proofs.Summing.{all_sums, block_sums, detects_change}
use Rattle.rkyv_container.proofs.checksum.adler32.Goals as goal

pub loop-done-preserved : goal.loop-done-preserved
loop-done-preserved c = grind (arith, common_steps, block_sums)

pub returns-clause-change : goal.returns-clause-change
returns-clause-change c = grind (arith, common_steps, all_sums, detects_change)
