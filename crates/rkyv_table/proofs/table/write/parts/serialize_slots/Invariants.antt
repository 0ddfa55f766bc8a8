use Rattle.std.proofs.Common.{ℕ, List, take, vec_capacity, ◌≤◌}
use Rattle.rkyv_base.specs.{Appends, Within, end_of, written_as}
use Rattle.rkyv_table.specs.{SlotParts, filled}
use Rattle.rkyv_table.proofs.table.write.parts.serialize_slots.Given as goal

abbrev pub invariant-loop-slot : goal.invariant-loop-slot
invariant-loop-slot g l = record {
  made : (part : List ℕ) × Appends (g.S.Writer.output l.initial.serializer) (g.S.Writer.output l.serializer) part
      × SlotParts (written_as g.X.Lend.lent g.U.Archive.format) (take l.slot-index l.slots) (end_of (g.S.Writer.output l.initial.serializer)) part l.resolvers.items
      × Within g.W.Width.LIMIT (g.S.Writer.output l.serializer) part;
  room : filled l.slots ≤ vec_capacity l.resolvers;
}
