use Rattle.rkyv_table.specs.{SameArchive}
use Rattle.rkyv_table.proofs.table.laws.in_place.cursors_keep_bytes.Given as goal

abbrev pub invariant-loop : goal.invariant-loop
invariant-loop g l = SameArchive l.initial.rest l.rest
