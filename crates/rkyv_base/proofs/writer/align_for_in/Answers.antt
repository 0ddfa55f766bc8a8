use Rattle.std.proofs.Common.{refl, arith}
use Rattle.std.proofs.lemmas.Grind.{common_steps}
use Rattle.std.proofs.lemmas.Result.{err_from_is_err_and}
use Rattle.rkyv_base.proofs.Zeros.{aligned_by_zeros, fails_of_zeros}
use Rattle.rkyv_base.proofs.writer.align_for_in.Goals as goal

pub returns-in_err-append_in : goal.returns-in_err-append_in
returns-in_err-append_in g c = grind (arith, common_steps, err_from_is_err_and, fails_of_zeros)

pub returns : goal.returns
returns g c =
    let h = c.in_ok-append_in.ensures in
    aligned_by_zeros g.W.Width.LIMIT g.T.HasSpec.spec.align _ c.pos-2.result _ _ g.T.HasSpec.laws.align_is
    (rw (c.align-align.ensures, c.pos.ensures) refl) c.pos-2.ensures h.0 h.1
