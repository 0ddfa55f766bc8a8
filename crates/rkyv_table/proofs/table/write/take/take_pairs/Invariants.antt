use Rattle.std.proofs.Common.{◌≡◌, ℕ, List, length}
use Rattle.std.specs.Iterator.{Yields}
use Rattle.rkyv_table.specs.{ArePlaced}
use Rattle.rkyv_table.proofs.table.write.take.take_pairs.Given as goal

abbrev pub invariant-loop-count : goal.invariant-loop-count
invariant-loop-count g l = record {
  ready : g.I.Iterator.can_next l.rest;
  taken : (xs : List (ℕ × g.row.X.Denot)) × Yields g.I.Iterator.next_gives l.initial.rest xs l.rest × (length xs ≡ l.count) × ArePlaced l.cap xs l.slots l.controls;
}
