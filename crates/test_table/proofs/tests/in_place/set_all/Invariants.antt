use Rattle.std.proofs.Common.{◌≡◌}
use Rattle.rkyv_table.specs.{IsSealIter}
use Rattle.test_table.proofs.tests.in_place.set_all.Given as goal

abbrev pub invariant-loop-next : goal.invariant-loop-next
invariant-loop-next g l = (l.rest.archive.ghost_name ≡ l.initial.rest.archive.ghost_name) × IsSealIter g.W.Word.word g.N.HasSpec.spec l.pos l.rest

abbrev pub decreases-loop-next : goal.decreases-loop-next
decreases-loop-next g l = l.rest.left
