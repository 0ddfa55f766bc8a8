use Rattle.std.proofs.Common.{length, ◌-◌}
use Rattle.rkyv_container.proofs.checksum.adler32.Given as goal
use Rattle.rkyv_container.proofs.Summing.{AreSumsOf}

abbrev pub invariant-loop-done : goal.invariant-loop-done
invariant-loop-done l = AreSumsOf l.bytes l.done l.sums.low l.sums.high

abbrev pub decreases-loop-done : goal.decreases-loop-done
decreases-loop-done l = length l.bytes - l.done
