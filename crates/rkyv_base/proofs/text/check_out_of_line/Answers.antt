use Rattle.std.proofs.lemmas.Grind.{common_steps}
use Rattle.std.proofs.Common.{arith}
use Rattle.std.proofs.lemmas.Int.{to_z-of_z}
use Rattle.std.proofs.lemmas.Result.{err_from_is_err_and}
use Rattle.rkyv_base.proofs.TextChecking.{is_long, no_text_fails, part_fails, text_passes}
use Rattle.rkyv_base.proofs.text.check_out_of_line.Goals as goal

pub returns-in_err-at : goal.returns-in_err-at
returns-in_err-at g c = grind (arith, err_from_is_err_and, part_fails, to_z-of_z)

pub returns : goal.returns
returns g c =
    let layout = g.met.W.Width.layout in
    grind (arith, common_steps, text_passes, to_z-of_z)

pub returns-in_err-check_out_of_line_utf8 : goal.returns-in_err-check_out_of_line_utf8
returns-in_err-check_out_of_line_utf8 g c =
    let layout = g.met.W.Width.layout in
    grind (arith, err_from_is_err_and, no_text_fails, to_z-of_z)

pub check_out_of_line_utf8-requires : goal.check_out_of_line_utf8-requires
check_out_of_line_utf8-requires g c =
    let layout = g.met.W.Width.layout in
    grind (arith, common_steps, is_long)

pub out_of_line_len-len-requires : goal.out_of_line_len-len-requires
out_of_line_len-len-requires g c = grind (arith, common_steps)

pub out_of_line_start-begin-requires : goal.out_of_line_start-begin-requires
out_of_line_start-begin-requires g c = grind (arith, common_steps)
