use Rattle.std.proofs.Common.{◌≤◌, length, take}
use Rattle.std.specs.Vec.Iter.{into_iter_items}
use Rattle.rkyv_index.proofs.RowChunks.{ValuesFilled}
use Rattle.rkyv_index.proofs.map.write.row.write_chunks.Given as goal

abbrev pub invariant-loop-value : goal.invariant-loop-value
invariant-loop-value g l = record {
  filled : ValuesFilled g.U.Archive.format g.U.Archived.HasSpec.spec.size g.W.Width.LIMIT l.values (into_iter_items l.initial.rest) (g.S.Writer.output l.initial.serializer) l.value-index (into_iter_items l.rest) (g.S.Writer.output l.serializer) (take l.end l.chunk);
  inside : l.end ≤ length l.chunk;
  room : g.U.Archived.HasSpec.spec.size ≤ length l.chunk;
}
