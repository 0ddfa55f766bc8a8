use Rattle.std.proofs.Common.{◌≤◌, ◌-◌, length}
use Rattle.rkyv_base.proofs.FirstMark.{NoneBelow}
use Rattle.rkyv_base.proofs.byte_search.first.Given as goal

abbrev pub invariant-loop-at : goal.invariant-loop-at
invariant-loop-at g l = (l.at ≤ length l.bytes) × NoneBelow g.S.ByteClass.in_class l.bytes l.at

abbrev pub decreases-loop-at : goal.decreases-loop-at
decreases-loop-at g l = length l.bytes - l.at
