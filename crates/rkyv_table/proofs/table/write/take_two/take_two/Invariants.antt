use Rattle.std.proofs.Common.{◌≡◌, ℕ, List, length}
use Rattle.std.specs.Iterator.{Yields}
use Rattle.rkyv_table.specs.{ArePlaced, hashes_of, items_of}
use Rattle.rkyv_table.proofs.table.write.take_two.take_two.Given as goal

abbrev pub invariant-loop-count : goal.invariant-loop-count
invariant-loop-count g l = record {
  ready : g.I.Iterator.can_next l.rest × g.J.Iterator.can_next l.rest_hashes;
  taken : (xs : List (ℕ × g.row.X.Denot)) × Yields g.I.Iterator.next_gives l.initial.rest (items_of xs) l.rest × Yields g.J.Iterator.next_gives l.initial.rest_hashes (hashes_of xs) l.rest_hashes
      × (length xs ≡ l.count) × ArePlaced l.cap xs l.slots l.controls;
}
