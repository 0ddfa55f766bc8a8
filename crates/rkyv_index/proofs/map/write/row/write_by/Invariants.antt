use Rattle.std.proofs.Common.{◌≡◌, ◌<◌, length}
use Rattle.std.specs.Vec.Iter.{into_iter_items}
use Rattle.rkyv_index.proofs.RowSteps.{ValuesWritten}
use Rattle.rkyv_index.proofs.map.write.row.write_by.Given as goal

abbrev pub invariant-loop-value : goal.invariant-loop-value
invariant-loop-value g l = record {
  written : ValuesWritten g.U.Archive.format g.W.Width.LIMIT l.values (into_iter_items l.initial.rest) (g.S.Writer.output l.initial.serializer) l.value-index (into_iter_items l.rest) (g.S.Writer.output l.serializer);
  room : 0 < length l.values → length l.scratch ≡ g.U.Archived.HasSpec.spec.size;
}
