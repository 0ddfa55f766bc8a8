use Rattle.std.proofs.Common.{arith, ◌≡◌, ◌+◌, ◌-◌, ◌<◌, ◌≤◌, length, take}
use Rattle.std.proofs.lemmas.List.{length-take-le}
use Rattle.std.proofs.lemmas.Result.{err_from_is_err_and}
use Rattle.rkyv_base.specs.{end_of, written_as}
use Rattle.rkyv_table.proofs.ChunkSteps.{ChunkFilled, chunk_fails, chunk_init, chunk_overflows, chunk_read, chunk_result, chunk_room, chunk_rooms, chunk_step}
use Rattle.rkyv_table.proofs.table.write.buckets.write_chunks.Goals as goal
use Rattle.rkyv_table.proofs.table.write.buckets.write_chunks.Goals.{In_ok-at}

pub loop-above-init : goal.loop-above-init
loop-above-init g c = record {
  down = chunk_init g.U.Archived.HasSpec.spec.size g.W.Width.LIMIT (written_as g.X.Lend.lent g.U.Archive.format) c.args.slots.now c.args.resolvers.items (g.S.Writer.output c.args.serializer.now) c.requires.count c.requires.fits;
  inside = omega arith;
  room = c.requires.room;
}

pub returns-in_err-at : goal.returns-in_err-at
returns-in_err-at g c =
    let p = err_from_is_err_and c.from_residual.result c.from_residual.ensures.1 in
    let m = c.in_err-at.ensures in
    let some : 0 < length (take c.loop-above.end c.loop-above.chunk) = omega (arith, length-take-le c.loop-above.end c.loop-above.chunk c.loop-above.invariant.inside, m.0, c.loop-above.invariant.room, c.size-size.ensures) in
    rw (p.1, p.2) (chunk_fails g.U.Archived.HasSpec.spec.size g.W.Width.LIMIT (written_as g.X.Lend.lent g.U.Archive.format) c.args.slots.now c.args.resolvers.items (g.S.Writer.output c.args.serializer.now) c.loop-above.above c.loop-above.rest.items (g.S.Writer.output c.loop-above.serializer) (g.S.Writer.output c.make_room.new.serializer) (take c.loop-above.end c.loop-above.chunk) c.in_err-at.field-0.0 c.loop-above.invariant.down some m.1)

-- one turn, with room for one more bucket
module _ (g : _) (c : In_ok-at g) where
  filled_at : ChunkFilled g.U.Archived.HasSpec.spec.size g.W.Width.LIMIT (written_as g.X.Lend.lent g.U.Archive.format) c.args.slots.now c.args.resolvers.items (g.S.Writer.output c.args.serializer.now) ((c.loop-above.above - 1) + 1) c.loop-above.rest.items (g.S.Writer.output c.make_room.new.serializer) (take c.in_ok-at.at c.loop-above.chunk)
  filled_at =
      let below : (c.loop-above.above - 1) + 1 ≡ c.loop-above.above = omega (arith, c.loop-above-test.true) in
      rw below (chunk_room g.U.Archived.HasSpec.spec.size g.W.Width.LIMIT (written_as g.X.Lend.lent g.U.Archive.format) c.args.slots.now c.args.resolvers.items (g.S.Writer.output c.args.serializer.now) c.loop-above.above c.loop-above.rest.items (g.S.Writer.output c.loop-above.serializer) (g.S.Writer.output c.make_room.new.serializer) c.loop-above.chunk c.loop-above.end c.in_ok-at.at c.loop-above.invariant.down (rw c.size-size.ensures at c.in_ok-at.ensures))

pub fill_at-requires-clause-some : goal.fill_at-requires-clause-some
fill_at-requires-clause-some g c =
    let d = filled_at g (goal.at.fill_at-requires-clause-some g c).In_ok-at in
    let e = chunk_read g.U.Archived.HasSpec.spec.size g.W.Width.LIMIT (written_as g.X.Lend.lent g.U.Archive.format) c.args.slots.now c.args.resolvers.items (g.S.Writer.output c.args.serializer.now) (c.loop-above.above - 1) c.loop-above.rest.items (g.S.Writer.output c.make_room.new.serializer) (take c.in_ok-at.at c.loop-above.chunk) c.index-slots-above.result d c.index-slots-above.is in
    chunk_rooms g.U.Archived.HasSpec.spec.size g.W.Width.LIMIT (written_as g.X.Lend.lent g.U.Archive.format) c.args.slots.now c.args.resolvers.items (g.S.Writer.output c.args.serializer.now) (c.loop-above.above - 1) c.loop-above.rest.items (g.S.Writer.output c.make_room.new.serializer) (take c.in_ok-at.at c.loop-above.chunk) c.index-slots-above.result d e

pub returns-in_err-append_filled-in-Err : goal.returns-in_err-append_filled-in-Err
returns-in_err-append_filled-in-Err g c =
    let p = err_from_is_err_and c.from_residual-in_err-append_filled-in-Err.result c.from_residual-in_err-append_filled-in-Err.ensures.1 in
    let d = filled_at g (goal.at.returns-in_err-append_filled-in-Err g c).In_ok-at in
    let t = rw c.in-Err.ensures.front at c.in_err-append_filled-in-Err.ensures in
    rw (p.1, p.2) (chunk_fails g.U.Archived.HasSpec.spec.size g.W.Width.LIMIT (written_as g.X.Lend.lent g.U.Archive.format) c.args.slots.now c.args.resolvers.items (g.S.Writer.output c.args.serializer.now) ((c.loop-above.above - 1) + 1) c.loop-above.rest.items (g.S.Writer.output c.make_room.new.serializer) (g.S.Writer.output c.append_filled.new.serializer) (take c.in_ok-at.at c.loop-above.chunk) c.in_err-append_filled-in-Err.field-0.0 d t.0 t.1)

pub returns-in-Err : goal.returns-in-Err
returns-in-Err g c =
    let d = filled_at g (goal.at.returns-in-Err g c).In_ok-at in
    let a = rw c.in-Err.ensures.front at c.in_ok-append_filled-in-Err.ensures in
    let e = chunk_read g.U.Archived.HasSpec.spec.size g.W.Width.LIMIT (written_as g.X.Lend.lent g.U.Archive.format) c.args.slots.now c.args.resolvers.items (g.S.Writer.output c.args.serializer.now) (c.loop-above.above - 1) c.loop-above.rest.items (g.S.Writer.output c.make_room.new.serializer) (take c.in_ok-at.at c.loop-above.chunk) c.index-slots-above.result d c.index-slots-above.is in
    let len : length (take c.in_ok-at.at c.loop-above.chunk) ≡ c.in_ok-at.at = length-take-le c.in_ok-at.at c.loop-above.chunk (omega (arith, c.in_ok-at.ensures.0)) in
    let at : c.pos.result + c.in_ok-at.at ≡ end_of (g.S.Writer.output c.make_room.new.serializer) + length (take c.in_ok-at.at c.loop-above.chunk) = omega (arith, c.pos.ensures, len) in
    rw c.from.ensures (chunk_overflows g.U.Archived.HasSpec.spec.size g.W.Width.LIMIT (written_as g.X.Lend.lent g.U.Archive.format) c.args.slots.now c.args.resolvers.items (g.S.Writer.output c.args.serializer.now) (c.loop-above.above - 1) c.loop-above.rest.items (g.S.Writer.output c.make_room.new.serializer) (g.S.Writer.output c.append_filled.new.serializer) (take c.in_ok-at.at c.loop-above.chunk) (c.pos.result + c.in_ok-at.at) c.index-slots-above.result d e at c.in-Err.ensures.writes a)

pub loop-above-preserved : goal.loop-above-preserved
loop-above-preserved g c =
    let d = filled_at g (goal.at.loop-above-preserved g c).In_ok-at in
    let e = chunk_read g.U.Archived.HasSpec.spec.size g.W.Width.LIMIT (written_as g.X.Lend.lent g.U.Archive.format) c.args.slots.now c.args.resolvers.items (g.S.Writer.output c.args.serializer.now) (c.loop-above.above - 1) c.loop-above.rest.items (g.S.Writer.output c.make_room.new.serializer) (take c.in_ok-at.at c.loop-above.chunk) c.index-slots-above.result d c.index-slots-above.is in
    let room : c.in_ok-at.at + g.U.Archived.HasSpec.spec.size ≤ length c.loop-above.chunk = omega (arith, c.in_ok-at.ensures.0, c.size-size.ensures) in
    let at : c.pos.result + c.in_ok-at.at ≡ end_of (g.S.Writer.output c.make_room.new.serializer) + c.in_ok-at.at = omega (arith, c.pos.ensures) in
    record {
      down = rw c.size-size.ensures (chunk_step g.U.Archived.HasSpec.spec.size g.W.Width.LIMIT (written_as g.X.Lend.lent g.U.Archive.format) c.args.slots.now c.args.resolvers.items (g.S.Writer.output c.args.serializer.now) (c.loop-above.above - 1) c.loop-above.rest.items c.fill_at.new.rest.items (g.S.Writer.output c.make_room.new.serializer) c.loop-above.chunk c.fill_at.new.chunk c.in_ok-at.at (c.pos.result + c.in_ok-at.at) c.index-slots-above.result d room c.in-Ok.ensures.kept c.in-Ok.ensures.front e at c.in-Ok.ensures.writes);
      inside = omega (arith, room, c.in-Ok.ensures.kept, c.size-size.ensures);
      room = omega (arith, room, c.in-Ok.ensures.kept);
    }

pub returns : goal.returns
returns g c =
    let none : c.loop-above.above ≡ 0 = omega (arith, c.loop-above-test.false) in
    chunk_result g.U.Archived.HasSpec.spec.size g.W.Width.LIMIT (written_as g.X.Lend.lent g.U.Archive.format) c.args.slots.now c.args.resolvers.items (g.S.Writer.output c.args.serializer.now) c.loop-above.rest.items (g.S.Writer.output c.loop-above.serializer) (g.S.Writer.output c.append_filled-2.new.serializer) (take c.loop-above.end c.loop-above.chunk) c.append_filled-2.result (rw none at c.loop-above.invariant.down) c.append_filled-2.ensures
