use Rattle.std.proofs.Common.{arith}
use Rattle.std.proofs.lemmas.Grind.{common_steps}
use Rattle.std.proofs.lemmas.Result.{err_from_is_err_and}
use Rattle.rkyv_base.proofs.RootWriting.{root_align_fails, root_append_fails, root_overflow_fails, root_wrote}
use Rattle.rkyv_base.proofs.root.write_root_by.Goals as goal

pub returns-in_err-resolver : goal.returns-in_err-resolver
returns-in_err-resolver g c = grind (arith, err_from_is_err_and)

pub returns-in_err-root : goal.returns-in_err-root
returns-in_err-root g c = grind (arith, common_steps, err_from_is_err_and, root_align_fails)

pub returns-in_err-resolve : goal.returns-in_err-resolve
returns-in_err-resolve g c = grind (arith, common_steps, err_from_is_err_and, root_overflow_fails)

pub returns-in_err-append_in : goal.returns-in_err-append_in
returns-in_err-append_in g c = grind (arith, common_steps, err_from_is_err_and, root_append_fails)

pub returns : goal.returns
returns g c =
    let s = c.in_ok-resolver.ensures in
    let a = c.in_ok-root.ensures in
    let d = c.in_ok-append_in.ensures in
    rw a.1 (root_wrote g.row.S-Fault.Denot g.W.Width.LIMIT g.V.Archived.HasSpec.spec g.V.Archive.format c.args.value.now
    (g.S.Writer.output c.args.serializer.now) (g.S.Writer.output c.serialize.new.serializer) (g.S.Writer.output c.align_for_in.new.serializer) (g.S.Writer.output c.append_in.new.serializer)
    s.0 c.in_ok-resolver.resolver s.1 s.2 s.3 c.resolve.new.out a.0 (rw a.1 at c.in_ok-resolve.ensures) d.0 d.1)
