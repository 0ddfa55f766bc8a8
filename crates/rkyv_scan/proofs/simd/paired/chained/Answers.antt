use Rattle.rkyv_scan.proofs.Paired.{chain_more, chain_none_yet}
use Rattle.rkyv_scan.proofs.simd.paired.chained.Goals as goal

pub loop-step-init : goal.loop-step-init
loop-step-init c = chain_none_yet c.args.equal c.args.next

pub loop-step-preserved : goal.loop-step-preserved
loop-step-preserved c = rw (c.after.ensures, c.loop-step.invariant) (chain_more c.args.equal c.args.next c.loop-step.step)
