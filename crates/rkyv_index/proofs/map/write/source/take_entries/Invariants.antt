use Rattle.std.proofs.Common.{◌≡◌, ◌≤◌, length, vec_capacity}
use Rattle.std.specs.Iterator.{Yields}
use Rattle.rkyv_index.specs.{pairs_of}
use Rattle.rkyv_index.proofs.map.write.source.take_entries.Given as goal

abbrev pub invariant-loop-count : goal.invariant-loop-count
invariant-loop-count g l = record {
  ready : g.I.Iterator.can_next l.rest;
  taken : Yields g.I.Iterator.next_gives l.initial.rest (pairs_of l.entries.items) l.rest;
  count : length l.entries.items ≡ l.count;
  room : l.len ≤ vec_capacity l.entries;
}
