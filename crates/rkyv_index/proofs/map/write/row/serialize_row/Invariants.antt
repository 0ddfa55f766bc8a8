use Rattle.std.proofs.Common.{ℕ, List, take, length, vec_capacity, ◌≤◌}
use Rattle.rkyv_base.specs.{Appends, Within, end_of}
use Rattle.rkyv_index.specs.{RowParts}
use Rattle.rkyv_index.proofs.map.write.row.serialize_row.Given as goal

abbrev pub invariant-loop-value : goal.invariant-loop-value
invariant-loop-value g l = record {
  appended : (part : List ℕ) × Appends (g.S.Writer.output l.initial.serializer) (g.S.Writer.output l.serializer) part
      × RowParts g.U.Archive.format (take l.value-index l.values) (end_of (g.S.Writer.output l.initial.serializer)) part l.resolvers.items
      × Within g.W.Width.LIMIT (g.S.Writer.output l.serializer) part;
  room : length l.values ≤ vec_capacity l.resolvers;
}
