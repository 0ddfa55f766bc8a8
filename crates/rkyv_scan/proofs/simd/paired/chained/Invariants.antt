use Rattle.std.proofs.Common.{◌≡◌}
use Rattle.rkyv_scan.specs.{chain}
use Rattle.rkyv_scan.proofs.simd.paired.chained.Given as goal

abbrev pub invariant-loop-step : goal.invariant-loop-step
invariant-loop-step l = l.marks ≡ chain l.equal l.next l.step
