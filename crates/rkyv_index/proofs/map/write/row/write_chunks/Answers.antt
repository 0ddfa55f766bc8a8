use Rattle.std.proofs.Common.{arith, ◌≡◌, ◌+◌, ◌<◌, ◌≤◌, ◌∷◌, refl, sym, length, take}
use Rattle.std.specs.Vec.Iter.{into_iter_items}
use Rattle.std.proofs.lemmas.List.{length-take-le}
use Rattle.std.proofs.lemmas.Option.{slice_get_read}
use Rattle.std.proofs.lemmas.Result.{err_from_is_err_and}
use Rattle.rkyv_base.specs.{end_of}
use Rattle.rkyv_index.proofs.RowChunks.{ValuesFilled, row_fails, row_init, row_overflows, row_result, row_room, row_step}
use Rattle.rkyv_index.proofs.map.write.row.write_chunks.Goals as goal
use Rattle.rkyv_index.proofs.map.write.row.write_chunks.Goals.{In_ok-at}

pub loop-value-init : goal.loop-value-init
loop-value-init g c = record {
  filled = row_init g.U.Archive.format g.U.Archived.HasSpec.spec.size g.W.Width.LIMIT c.args.values.now (into_iter_items c.into_iter-rest.result) (g.S.Writer.output c.args.serializer.now) c.requires.fits;
  inside = omega arith;
  room = c.requires.room;
}

pub returns-in_err-at : goal.returns-in_err-at
returns-in_err-at g c =
    let p = err_from_is_err_and c.from_residual.result c.from_residual.ensures.1 in
    let m = c.in_err-at.ensures in
    let some : 0 < length (take c.loop-value.end c.loop-value.chunk) = omega (arith, length-take-le c.loop-value.end c.loop-value.chunk c.loop-value.invariant.inside, m.0, c.loop-value.invariant.room, c.size-size.ensures) in
    rw (p.1, p.2, sym c.into_iter-rest.ensures.rest) (row_fails g.U.Archive.format g.U.Archived.HasSpec.spec.size g.W.Width.LIMIT c.args.values.now (into_iter_items c.into_iter-rest.result) (g.S.Writer.output c.args.serializer.now) c.loop-value.value-index (into_iter_items c.loop-value.rest) (g.S.Writer.output c.loop-value.serializer) (g.S.Writer.output c.make_room.new.serializer) (take c.loop-value.end c.loop-value.chunk) c.in_err-at.field-0.0 c.loop-value.invariant.filled some m.1)

-- one turn, with room for one more value
module _ (g : _) (c : In_ok-at g) where
  filled_at : ValuesFilled g.U.Archive.format g.U.Archived.HasSpec.spec.size g.W.Width.LIMIT c.args.values.now (into_iter_items c.into_iter-rest.result) (g.S.Writer.output c.args.serializer.now) c.loop-value.value-index (into_iter_items c.loop-value.rest) (g.S.Writer.output c.make_room.new.serializer) (take c.in_ok-at.at c.loop-value.chunk)
  filled_at = row_room g.U.Archive.format g.U.Archived.HasSpec.spec.size g.W.Width.LIMIT c.args.values.now (into_iter_items c.into_iter-rest.result) (g.S.Writer.output c.args.serializer.now) c.loop-value.value-index (into_iter_items c.loop-value.rest) (g.S.Writer.output c.loop-value.serializer) (g.S.Writer.output c.make_room.new.serializer) c.loop-value.chunk c.loop-value.end c.in_ok-at.at c.loop-value.invariant.filled (rw c.size-size.ensures at c.in_ok-at.ensures)

pub returns-in_err-append_filled-in-Err : goal.returns-in_err-append_filled-in-Err
returns-in_err-append_filled-in-Err g c =
    let p = err_from_is_err_and c.from_residual-in_err-append_filled-in-Err.result c.from_residual-in_err-append_filled-in-Err.ensures.1 in
    let d = filled_at g (goal.at.returns-in_err-append_filled-in-Err g c).In_ok-at in
    let t = rw c.in-Err.ensures.front at c.in_err-append_filled-in-Err.ensures in
    rw (p.1, p.2, sym c.into_iter-rest.ensures.rest) (row_fails g.U.Archive.format g.U.Archived.HasSpec.spec.size g.W.Width.LIMIT c.args.values.now (into_iter_items c.into_iter-rest.result) (g.S.Writer.output c.args.serializer.now) c.loop-value.value-index (into_iter_items c.loop-value.rest) (g.S.Writer.output c.make_room.new.serializer) (g.S.Writer.output c.append_filled.new.serializer) (take c.in_ok-at.at c.loop-value.chunk) c.in_err-append_filled-in-Err.field-0.0 d t.0 t.1)

pub returns-in-Err : goal.returns-in-Err
returns-in-Err g c =
    let d = filled_at g (goal.at.returns-in-Err g c).In_ok-at in
    let a = rw c.in-Err.ensures.front at c.in_ok-append_filled-in-Err.ensures in
    let there = slice_get_read c.args.values.now _ c.loop-value.value-index c.value-item.result refl c.loop-value-test.true c.value-item.is in
    let first : (into_iter_items c.loop-value.rest) ≡ c.in-Some.resolver ∷ (into_iter_items c.next.new.self) = c.in-Some.ensures.items in
    let len : length (take c.in_ok-at.at c.loop-value.chunk) ≡ c.in_ok-at.at = length-take-le c.in_ok-at.at c.loop-value.chunk (omega (arith, c.in_ok-at.ensures.0)) in
    let at : c.pos.result + c.in_ok-at.at ≡ end_of (g.S.Writer.output c.make_room.new.serializer) + length (take c.in_ok-at.at c.loop-value.chunk) = omega (arith, c.pos.ensures, len) in
    rw (c.from.ensures, sym c.into_iter-rest.ensures.rest) (row_overflows g.U.Archive.format g.U.Archived.HasSpec.spec.size g.W.Width.LIMIT c.args.values.now (into_iter_items c.into_iter-rest.result) (g.S.Writer.output c.args.serializer.now) c.loop-value.value-index c.value-item.result c.in-Some.resolver (into_iter_items c.loop-value.rest) (into_iter_items c.next.new.self) (g.S.Writer.output c.make_room.new.serializer) there first (g.S.Writer.output c.append_filled.new.serializer) (take c.in_ok-at.at c.loop-value.chunk) (c.pos.result + c.in_ok-at.at) d at c.in-Err.ensures.writes a)

pub loop-value-preserved : goal.loop-value-preserved
loop-value-preserved g c =
    let d = filled_at g (goal.at.loop-value-preserved g c).In_ok-at in
    let there = slice_get_read c.args.values.now _ c.loop-value.value-index c.value-item.result refl c.loop-value-test.true c.value-item.is in
    let first : (into_iter_items c.loop-value.rest) ≡ c.in-Some.resolver ∷ (into_iter_items c.next.new.self) = c.in-Some.ensures.items in
    let room : c.in_ok-at.at + g.U.Archived.HasSpec.spec.size ≤ length c.loop-value.chunk = omega (arith, c.in_ok-at.ensures.0, c.size-size.ensures) in
    let at : c.pos.result + c.in_ok-at.at ≡ end_of (g.S.Writer.output c.make_room.new.serializer) + c.in_ok-at.at = omega (arith, c.pos.ensures) in
    record {
      filled = rw c.size-size.ensures (row_step g.U.Archive.format g.U.Archived.HasSpec.spec.size g.W.Width.LIMIT c.args.values.now (into_iter_items c.into_iter-rest.result) (g.S.Writer.output c.args.serializer.now) c.loop-value.value-index c.value-item.result c.in-Some.resolver (into_iter_items c.loop-value.rest) (into_iter_items c.next.new.self) (g.S.Writer.output c.make_room.new.serializer) there first c.loop-value.chunk c.resolve_at.new.chunk c.in_ok-at.at (c.pos.result + c.in_ok-at.at) d room c.in-Ok.ensures.kept c.in-Ok.ensures.front at c.in-Ok.ensures.writes);
      inside = omega (arith, room, c.in-Ok.ensures.kept, c.size-size.ensures);
      room = omega (arith, room, c.in-Ok.ensures.kept);
    }

pub returns : goal.returns
returns g c =
    let e : c.loop-value.value-index ≡ length c.args.values.now = omega (arith, c.loop-value.auto.value-index-end, c.loop-value-test.false) in
    let count : length (into_iter_items c.into_iter-rest.result) ≡ length c.args.values.now = rw c.into_iter-rest.ensures.rest c.requires.count in
    rw (sym c.into_iter-rest.ensures.rest) (row_result g.U.Archive.format g.U.Archived.HasSpec.spec.size g.W.Width.LIMIT c.args.values.now (into_iter_items c.into_iter-rest.result) (g.S.Writer.output c.args.serializer.now) (into_iter_items c.loop-value.rest) (g.S.Writer.output c.loop-value.serializer) (g.S.Writer.output c.append_filled-2.new.serializer) (take c.loop-value.end c.loop-value.chunk) c.append_filled-2.result count (rw e at c.loop-value.invariant.filled) c.append_filled-2.ensures)
