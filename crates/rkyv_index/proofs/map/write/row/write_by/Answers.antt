use Rattle.std.proofs.Common.{◌≡◌, ◌∷◌, refl, sym, arith}
use Rattle.std.proofs.lemmas.Grind.{common_steps}
use Rattle.std.specs.Vec.Iter.{into_iter_items}
use Rattle.std.proofs.lemmas.Option.{slice_get_read}
use Rattle.std.proofs.lemmas.Result.{err_from_is_err_and}
use Rattle.rkyv_index.proofs.RowSteps.{overflow_fails, piece_fails, written_more}
use Rattle.rkyv_index.proofs.map.write.row.write_by.Goals as goal

pub returns-in_err-resolve : goal.returns-in_err-resolve
returns-in_err-resolve g c =
    let p = err_from_is_err_and c.from_residual.result c.from_residual.ensures.1 in
    let there = slice_get_read c.args.values.now _ c.loop-value.value-index c.value-item.result refl c.loop-value-test.true c.value-item.is in
    let first : into_iter_items c.loop-value.rest ≡ c.in-Some.resolver ∷ into_iter_items c.next.new.self = c.in-Some.ensures.items in
    rw (p.1, p.2, sym c.into_iter-rest.ensures.rest) (overflow_fails g.U.Archive.format g.W.Width.LIMIT c.args.values.now (into_iter_items c.into_iter-rest.result) (g.S.Writer.output c.args.serializer.now)
    c.loop-value.value-index c.value-item.result c.in-Some.resolver (into_iter_items c.loop-value.rest) (into_iter_items c.next.new.self) (g.S.Writer.output c.loop-value.serializer) c.loop-value.invariant.written there first
    (rw c.pos.ensures at c.in_err-resolve.ensures))

pub returns-in_err-append_in : goal.returns-in_err-append_in
returns-in_err-append_in g c =
    let there = slice_get_read c.args.values.now _ c.loop-value.value-index c.value-item.result refl c.loop-value-test.true c.value-item.is in
    let first : into_iter_items c.loop-value.rest ≡ c.in-Some.resolver ∷ into_iter_items c.next.new.self = c.in-Some.ensures.items in
    let p = err_from_is_err_and c.from_residual-in_err-append_in.result c.from_residual-in_err-append_in.ensures.1 in
    rw (p.1, p.2, sym c.into_iter-rest.ensures.rest) (piece_fails g.U.Archive.format g.W.Width.LIMIT c.args.values.now (into_iter_items c.into_iter-rest.result) (g.S.Writer.output c.args.serializer.now)
    c.loop-value.value-index c.value-item.result c.in-Some.resolver (into_iter_items c.loop-value.rest) (into_iter_items c.next.new.self) (g.S.Writer.output c.loop-value.serializer) c.loop-value.invariant.written there first
    c.resolve.new.out (g.S.Writer.output c.append_in.new.serializer) c.in_err-append_in.field-0.0 (rw c.pos.ensures at c.in_ok-resolve.ensures) c.in_err-append_in.ensures)

pub loop-value-preserved : goal.loop-value-preserved
loop-value-preserved g c = grind (arith, common_steps, slice_get_read, written_more)
