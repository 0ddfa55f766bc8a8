use Rattle.std.proofs.Common.{◌≡◌, length}
use Rattle.rkyv_base.specs.{written_as}
use Rattle.rkyv_table.proofs.BucketSteps.{BucketsWritten}
use Rattle.rkyv_table.proofs.table.write.buckets.write_by.Given as goal

abbrev pub invariant-loop-above : goal.invariant-loop-above
invariant-loop-above g l = record {
  down : BucketsWritten g.U.Archived.HasSpec.spec.size g.W.Width.LIMIT (written_as g.X.Lend.lent g.U.Archive.format) l.slots l.initial.rest.items (g.S.Writer.output l.initial.serializer) l.above l.rest.items (g.S.Writer.output l.serializer);
  room : length l.bucket ≡ g.U.Archived.HasSpec.spec.size;
}

abbrev pub decreases-loop-above : goal.decreases-loop-above
decreases-loop-above g l = l.above
