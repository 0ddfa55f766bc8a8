use Rattle.std.proofs.Common.{[], arith}
use Rattle.std.proofs.lemmas.Grind.{common_steps}
use Rattle.std.proofs.lemmas.Result.{err_from_is_err_and}
use Rattle.rkyv_base.specs.{written_as}
use Rattle.rkyv_table.proofs.TableResults.{capacity_fits, fails_some, wrote_some}
use Rattle.rkyv_table.specs.{HasCapacity}
use Rattle.rkyv_table.proofs.table.write.serialize.serialize_source.Goals as goal

pub returns : goal.returns
returns g c = grind (arith, common_steps, capacity_fits, wrote_some)

pub returns-in_err-pos : goal.returns-in_err-pos
returns-in_err-pos g c =
    let cap = c.in_ok-cap.ensures in
    let has : HasCapacity c.args.len c.args.load_factor g.W.Width.MAX_CAPACITY = (cap.0, rw (cap.1, c.MAX_CAPACITY.ensures) at cap.2) in
    let p = err_from_is_err_and c.from_residual-in_err-pos.result c.from_residual-in_err-pos.ensures.1 in
    rw (p.1, p.2) (fails_some (g.H.ItemSource.input c.args.given).yields c.args.len c.args.load_factor g.W.Width.MAX_CAPACITY g.W.Word.word g.U.Archived.HasSpec.spec (written_as g.X.Lend.lent g.U.Archive.format) (g.S.Writer.output c.args.serializer.now) (g.S.Writer.output c.serialize_nonempty.new.serializer) g.W.Width.LIMIT has (omega (arith, c.if-len-eq0.false)) ((g.H.ItemSource.input c.args.given).yields_other_count c.args.len) c.in_err-pos.field-0.0 (rw cap.1 at c.in_err-pos.ensures))

pub returns-then-len-eq0 : goal.returns-then-len-eq0
returns-then-len-eq0 g c = (grind (arith, common_steps), [], grind (arith, common_steps), ([], grind (arith, common_steps), grind (arith, common_steps), grind (arith, common_steps)))
