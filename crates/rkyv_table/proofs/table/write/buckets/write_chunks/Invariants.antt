use Rattle.std.proofs.Common.{◌≤◌, length, take}
use Rattle.rkyv_base.specs.{written_as}
use Rattle.rkyv_table.proofs.ChunkSteps.{ChunkFilled}
use Rattle.rkyv_table.proofs.table.write.buckets.write_chunks.Given as goal

abbrev pub invariant-loop-above : goal.invariant-loop-above
invariant-loop-above g l = record {
  down : ChunkFilled g.U.Archived.HasSpec.spec.size g.W.Width.LIMIT (written_as g.X.Lend.lent g.U.Archive.format) l.slots l.initial.rest.items (g.S.Writer.output l.initial.serializer) l.above l.rest.items (g.S.Writer.output l.serializer) (take l.end l.chunk);
  inside : l.end ≤ length l.chunk;
  room : g.U.Archived.HasSpec.spec.size ≤ length l.chunk;
}

abbrev pub decreases-loop-above : goal.decreases-loop-above
decreases-loop-above g l = l.above
