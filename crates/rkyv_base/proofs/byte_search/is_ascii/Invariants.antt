use Rattle.std.proofs.Common.{◌≤◌, ◌-◌, length, leb}
use Rattle.rkyv_base.proofs.FirstMark.{NoneBelow}
use Rattle.rkyv_base.proofs.byte_search.is_ascii.Given as goal

abbrev pub invariant-loop-at : goal.invariant-loop-at
invariant-loop-at l = (l.at ≤ length l.bytes) × NoneBelow (λ x. leb 128 x) l.bytes l.at

abbrev pub decreases-loop-at : goal.decreases-loop-at
decreases-loop-at l = length l.bytes - l.at
