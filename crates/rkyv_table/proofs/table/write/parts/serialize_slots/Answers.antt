use Rattle.std.proofs.Common.{arith, ◌≡◌, ◌<◌, ◌++◌, length, get_or, sym, ◌∙◌, Some, None, vec_capacity}
use Rattle.std.proofs.lemmas.Grind.{common_steps}
use Rattle.std.proofs.lemmas.Result.{err_from_is_err_and}
use Rattle.std.proofs.lemmas.List.{take_all, get_or_default}
use Rattle.rkyv_base.specs.{written_as}
use Rattle.rkyv_base.specs.Lemmas.Writing.{appends_after, grows, within_after}
use Rattle.rkyv_table.proofs.PartSteps.{step_fails, step_none, step_room, step_some}
use Rattle.rkyv_table.proofs.table.write.parts.serialize_slots.Goals as goal
use Rattle.rkyv_table.proofs.table.write.parts.serialize_slots.Goals.{in-Some+in_ok-resolver, in_default}

pub push_reserved-requires : goal.push_reserved-requires
push_reserved-requires g c =
    let m = c.loop-slot.invariant.made in
    let e : get_or c.args.slots.now c.loop-slot.slot-index None ≡ Some c.in-Some.item = get_or_default c.args.slots.now c.loop-slot.slot-index None c.slot-item.result c.loop-slot-test.true ∙ sym c.slot-item.is ∙ c.in-Some.is in
    let k : length c.loop-slot.resolvers.items < vec_capacity c.loop-slot.resolvers = step_room (written_as g.X.Lend.lent g.U.Archive.format) c.args.slots.now c.loop-slot.slot-index c.loop-slot-test.true (g.S.Writer.output c.args.serializer.now) (g.S.Writer.output c.loop-slot.serializer) m.0 c.loop-slot.resolvers.items m.1 m.2 c.in-Some.item e (vec_capacity c.loop-slot.resolvers) c.loop-slot.invariant.room in
    let len = c.loop-slot.resolvers.ok.0 in
    omega (arith, k, len)

pub returns-in_err-resolver : goal.returns-in_err-resolver
returns-in_err-resolver g c =
    let m = c.loop-slot.invariant.made in
    let e : get_or c.args.slots.now c.loop-slot.slot-index None ≡ Some c.in-Some.item = get_or_default c.args.slots.now c.loop-slot.slot-index None c.slot-item.result c.loop-slot-test.true ∙ sym c.slot-item.is ∙ c.in-Some.is in
    let p = err_from_is_err_and c.from_residual.result c.from_residual.ensures.1 in
    rw (p.1, p.2) (step_fails (written_as g.X.Lend.lent g.U.Archive.format) c.args.slots.now c.loop-slot.slot-index c.loop-slot-test.true (g.S.Writer.output c.args.serializer.now) (g.S.Writer.output c.loop-slot.serializer) m.0 c.loop-slot.resolvers.items m.1 m.2 c.in-Some.item e
    g.W.Width.LIMIT (g.S.Writer.output c.serialize.new.serializer) c.in_err-resolver.field-0.0 m.3 (rw c.lend.ensures at c.in_err-resolver.ensures))

pub loop-slot-preserved : goal.loop-slot-preserved
loop-slot-preserved g c =
    let m = c.loop-slot.invariant.made in
    elim c.match-slot.branch [
      | in-Some+in_ok-resolver w ↦
          let e : get_or c.args.slots.now c.loop-slot.slot-index None ≡ Some w.in-Some.item = get_or_default c.args.slots.now c.loop-slot.slot-index None c.slot-item.result c.loop-slot-test.true ∙ sym c.slot-item.is ∙ w.in-Some.is in
          let s = rw w.lend.ensures at w.in_ok-resolver.ensures in
          rw (w.serializer-is, w.resolvers-is) (record {
            made = (
              m.0 ++ s.0,
              appends_after (g.S.Writer.output c.args.serializer.now) (g.S.Writer.output c.loop-slot.serializer) (g.S.Writer.output w.serialize.new.serializer) m.0 s.0 m.1 s.1,
              rw w.push_reserved.ensures.items (step_some (written_as g.X.Lend.lent g.U.Archive.format) c.args.slots.now c.loop-slot.slot-index c.loop-slot-test.true (g.S.Writer.output c.args.serializer.now) (g.S.Writer.output c.loop-slot.serializer) m.0 c.loop-slot.resolvers.items m.1 m.2 w.in-Some.item e s.0 w.in_ok-resolver.resolver s.2),
              within_after g.W.Width.LIMIT (g.S.Writer.output c.loop-slot.serializer) (g.S.Writer.output w.serialize.new.serializer) m.0 s.0 (grows (g.S.Writer.output c.loop-slot.serializer) (g.S.Writer.output w.serialize.new.serializer) s.0 s.1) m.3 s.3,
            );
            room = rw w.push_reserved.ensures.capacity c.loop-slot.invariant.room;
          })
      | in_default w ↦
          let e : get_or c.args.slots.now c.loop-slot.slot-index None ≡ None = get_or_default c.args.slots.now c.loop-slot.slot-index None c.slot-item.result c.loop-slot-test.true ∙ sym c.slot-item.is ∙ w.in_default.is in
          rw (w.serializer-is, w.resolvers-is) (record {
            made = (
              m.0,
              m.1,
              step_none (written_as g.X.Lend.lent g.U.Archive.format) c.args.slots.now c.loop-slot.slot-index c.loop-slot-test.true (g.S.Writer.output c.args.serializer.now) (g.S.Writer.output c.loop-slot.serializer) m.0 c.loop-slot.resolvers.items m.1 m.2 e,
              m.3,
            );
            room = c.loop-slot.invariant.room;
          })
    ]

pub returns : goal.returns
returns g c = grind (arith, common_steps, take_all)
