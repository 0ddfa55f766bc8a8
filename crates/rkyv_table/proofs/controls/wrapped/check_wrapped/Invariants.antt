use Rattle.std.proofs.Common.{ℕ, ◌<◌, ◌≤◌}
use Rattle.rkyv_table.specs.{IsWrappedAt}
use Rattle.rkyv_table.proofs.controls.wrapped.check_wrapped.Given as goal

abbrev pub invariant-loop-index : goal.invariant-loop-index
invariant-loop-index l = (q : ℕ) → l.cap ≤ q → q < l.index → IsWrappedAt l.cap l.controls q
