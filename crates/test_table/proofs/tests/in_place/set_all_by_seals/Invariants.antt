use Rattle.std.proofs.Common.{◌≡◌}
use Rattle.rkyv_table.specs.{IsSealIter}
use Rattle.test_table.proofs.tests.in_place.set_all_by_seals.Given as goal

abbrev pub invariant-loop : goal.invariant-loop
invariant-loop g l = (l.rest.archive.ghost_name ≡ l.initial.rest.archive.ghost_name) × IsSealIter g.W.Word.word g.N.HasSpec.spec l.pos l.rest
