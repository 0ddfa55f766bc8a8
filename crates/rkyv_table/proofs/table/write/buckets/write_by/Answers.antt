use Rattle.std.proofs.Common.{arith, ◌≡◌, ◌+◌, ◌-◌}
use Rattle.std.proofs.lemmas.Grind.{common_steps}
use Rattle.std.proofs.lemmas.Result.{err_from_is_err_and}
use Rattle.rkyv_base.specs.{written_as}
use Rattle.rkyv_table.proofs.BucketSteps.{BucketsWritten, bucket_fails, down_init, down_read, down_rooms, down_step, overflow_fails}
use Rattle.rkyv_table.proofs.table.write.buckets.write_by.Goals as goal
use Rattle.rkyv_table.proofs.table.write.buckets.write_by.Goals.{In-loop-above}

pub loop-above-init : goal.loop-above-init
loop-above-init g c = record {
  down = down_init g.U.Archived.HasSpec.spec.size g.W.Width.LIMIT (written_as g.X.Lend.lent g.U.Archive.format) c.args.slots.now c.args.resolvers.items (g.S.Writer.output c.args.serializer.now) c.requires.count c.requires.within;
  room = c.requires.room;
}

-- one turn
module _ (g : _) (c : In-loop-above g) where
  down_here : BucketsWritten g.U.Archived.HasSpec.spec.size g.W.Width.LIMIT (written_as g.X.Lend.lent g.U.Archive.format) c.args.slots.now c.args.resolvers.items (g.S.Writer.output c.args.serializer.now) ((c.loop-above.above - 1) + 1) c.loop-above.rest.items (g.S.Writer.output c.loop-above.serializer)
  down_here =
      let e : (c.loop-above.above - 1) + 1 ≡ c.loop-above.above = omega (arith, c.loop-above-test.true) in
      rw e c.loop-above.invariant.down

pub fill_bucket-requires-clause-some : goal.fill_bucket-requires-clause-some
fill_bucket-requires-clause-some g c =
    let d = down_here g (goal.at.fill_bucket-requires-clause-some g c).In-loop-above in
    let e = down_read g.U.Archived.HasSpec.spec.size g.W.Width.LIMIT (written_as g.X.Lend.lent g.U.Archive.format) c.args.slots.now c.args.resolvers.items (g.S.Writer.output c.args.serializer.now) (c.loop-above.above - 1) c.loop-above.rest.items (g.S.Writer.output c.loop-above.serializer) (g.S.Writer.output c.loop-above.serializer) d c.index-slots-above.result c.index-slots-above.is in
    down_rooms g.U.Archived.HasSpec.spec.size g.W.Width.LIMIT (written_as g.X.Lend.lent g.U.Archive.format) c.args.slots.now c.args.resolvers.items (g.S.Writer.output c.args.serializer.now) (c.loop-above.above - 1) c.loop-above.rest.items (g.S.Writer.output c.loop-above.serializer) (g.S.Writer.output c.loop-above.serializer) d c.index-slots-above.result e

pub returns-in_err-fill_bucket-clause-writes : goal.returns-in_err-fill_bucket-clause-writes
returns-in_err-fill_bucket-clause-writes g c =
    let d = down_here g (goal.at.returns-in_err-fill_bucket-clause-writes g c).In-loop-above in
    let e = down_read g.U.Archived.HasSpec.spec.size g.W.Width.LIMIT (written_as g.X.Lend.lent g.U.Archive.format) c.args.slots.now c.args.resolvers.items (g.S.Writer.output c.args.serializer.now) (c.loop-above.above - 1) c.loop-above.rest.items (g.S.Writer.output c.loop-above.serializer) (g.S.Writer.output c.loop-above.serializer) d c.index-slots-above.result c.index-slots-above.is in
    let p = err_from_is_err_and c.from_residual.result c.from_residual.ensures.1 in
    rw (p.1, p.2) (overflow_fails g.U.Archived.HasSpec.spec.size g.W.Width.LIMIT (written_as g.X.Lend.lent g.U.Archive.format) c.args.slots.now c.args.resolvers.items (g.S.Writer.output c.args.serializer.now) (c.loop-above.above - 1) c.loop-above.rest.items (g.S.Writer.output c.loop-above.serializer) (g.S.Writer.output c.loop-above.serializer) d c.index-slots-above.result e (rw c.pos.ensures at c.in_err-fill_bucket.ensures.writes))

pub returns-in_err-append_in-clause-writes : goal.returns-in_err-append_in-clause-writes
returns-in_err-append_in-clause-writes g c =
    let d = down_here g (goal.at.returns-in_err-append_in-clause-writes g c).In-loop-above in
    let e = down_read g.U.Archived.HasSpec.spec.size g.W.Width.LIMIT (written_as g.X.Lend.lent g.U.Archive.format) c.args.slots.now c.args.resolvers.items (g.S.Writer.output c.args.serializer.now) (c.loop-above.above - 1) c.loop-above.rest.items (g.S.Writer.output c.loop-above.serializer) (g.S.Writer.output c.append_in.new.serializer) d c.index-slots-above.result c.index-slots-above.is in
    let p = err_from_is_err_and c.from_residual-in_err-append_in.result c.from_residual-in_err-append_in.ensures.1 in
    rw (p.1, p.2) (bucket_fails g.U.Archived.HasSpec.spec.size g.W.Width.LIMIT (written_as g.X.Lend.lent g.U.Archive.format) c.args.slots.now c.args.resolvers.items (g.S.Writer.output c.args.serializer.now) (c.loop-above.above - 1) c.loop-above.rest.items (g.S.Writer.output c.loop-above.serializer) (g.S.Writer.output c.append_in.new.serializer) d c.index-slots-above.result e c.fill_bucket.new.rest.items c.fill_bucket.new.bucket c.in_err-append_in.field-0.0 (rw c.pos.ensures at c.in_ok-fill_bucket.ensures.writes) c.in_err-append_in.ensures)

pub loop-above-preserved : goal.loop-above-preserved
loop-above-preserved g c = grind (arith, common_steps, down_here, down_read, down_step)

pub returns-clause-writes : goal.returns-clause-writes
returns-clause-writes g c = grind (arith, common_steps)
