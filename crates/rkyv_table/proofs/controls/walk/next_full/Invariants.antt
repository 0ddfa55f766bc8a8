use Rattle.std.proofs.Common.{◌≡◌}
use Rattle.rkyv_table.specs.{full_from}
use Rattle.rkyv_table.proofs.controls.walk.next_full.Given as goal

abbrev pub invariant-loop-bucket : goal.invariant-loop-bucket
invariant-loop-bucket l = full_from l.fn.controls l.fn.cap l.fn.from ≡ full_from l.fn.controls l.fn.cap l.bucket
