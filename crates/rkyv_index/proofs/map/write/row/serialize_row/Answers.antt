use Rattle.std.proofs.Common.{arith, ◌++◌, refl}
use Rattle.std.proofs.lemmas.Grind.{common_steps}
use Rattle.std.proofs.lemmas.List.{length-take}
use Rattle.std.proofs.lemmas.Option.{slice_get_read}
use Rattle.std.proofs.lemmas.Result.{err_from_is_err_and}
use Rattle.rkyv_base.specs.Lemmas.Writing.{appends_after, grows, within_after}
use Rattle.rkyv_index.proofs.RowSteps.{parts_count, step_fails, step_part}
use Rattle.rkyv_index.proofs.map.write.row.serialize_row.Goals as goal

pub push_reserved-requires : goal.push_reserved-requires
push_reserved-requires g c = grind (arith, common_steps, parts_count, length-take)

pub returns-in_err-resolver : goal.returns-in_err-resolver
returns-in_err-resolver g c = grind (arith, slice_get_read, err_from_is_err_and, step_fails)

pub loop-value-preserved : goal.loop-value-preserved
loop-value-preserved g c =
    let m = c.loop-value.invariant.appended in
    let s = c.in_ok-resolver.ensures in
    let there = slice_get_read c.args.values.now _ c.loop-value.value-index c.value-item.result refl c.loop-value-test.true c.value-item.is in
    record {
      appended = (
        m.0 ++ s.0,
        appends_after (g.S.Writer.output c.args.serializer.now) (g.S.Writer.output c.loop-value.serializer) (g.S.Writer.output c.serialize.new.serializer) m.0 s.0 m.1 s.1,
        rw c.push_reserved.ensures.items (step_part g.U.Archive.format c.args.values.now c.loop-value.value-index c.value-item.result there (g.S.Writer.output c.args.serializer.now) (g.S.Writer.output c.loop-value.serializer) m.0 c.loop-value.resolvers.items m.1 m.2 s.0 c.in_ok-resolver.resolver s.2),
        within_after g.W.Width.LIMIT (g.S.Writer.output c.loop-value.serializer) (g.S.Writer.output c.serialize.new.serializer) m.0 s.0 (grows (g.S.Writer.output c.loop-value.serializer) (g.S.Writer.output c.serialize.new.serializer) s.0 s.1) m.3 s.3,
      );
      room = rw c.push_reserved.ensures.capacity c.loop-value.invariant.room;
    }
