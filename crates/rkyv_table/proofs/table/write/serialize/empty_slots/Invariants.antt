use Rattle.std.proofs.Common.{◌≡◌, None, replicate, vec_capacity, ◌≤◌}
use Rattle.rkyv_table.proofs.table.write.serialize.empty_slots.Given as goal

abbrev pub invariant-loop : goal.invariant-loop
invariant-loop g l = record {
  items : l.slots.items ≡ replicate l.counter None;
  room : l.cap ≤ vec_capacity l.slots;
}
