use Rattle.std.proofs.Common.{◌∙◌, arith}
use Rattle.std.proofs.lemmas.Grind.{common_steps}
use Rattle.rkyv_table.proofs.SealedItems.{full_skipped, full_taken}
use Rattle.rkyv_table.proofs.controls.walk.next_full.Goals as goal
use Rattle.rkyv_table.proofs.Walks.{full_end}

pub returns-then-controls-bucket-lt128 : goal.returns-then-controls-bucket-lt128
returns-then-controls-bucket-lt128 c = grind (arith, common_steps, full_taken)

pub loop-bucket-preserved : goal.loop-bucket-preserved
loop-bucket-preserved c = grind (arith, common_steps, full_skipped)

pub returns : goal.returns
returns c = c.loop-bucket.invariant ∙ full_end c.args.controls.now c.args.cap c.loop-bucket.bucket c.loop-bucket-test.false
