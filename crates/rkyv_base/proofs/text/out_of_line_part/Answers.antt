use Rattle.std.proofs.Common.{arith}
use Rattle.std.proofs.lemmas.Grind.{common_steps}
use Rattle.std.proofs.lemmas.Int.{to_z-of_z}
use Rattle.rkyv_base.specs.Lemmas.Text.{out_of_line_reads, viewable_out_of_line}
use Rattle.rkyv_base.proofs.text.out_of_line_part.Goals as goal

pub pos_of_begin-at-requires : goal.pos_of_begin-at-requires
pos_of_begin-at-requires g c = grind (arith, viewable_out_of_line, to_z-of_z)

pub returns : goal.returns
returns g c = grind (arith, common_steps, to_z-of_z, out_of_line_reads)

pub out_of_line_start-requires : goal.out_of_line_start-requires
out_of_line_start-requires g c = grind (arith, common_steps)

pub out_of_line_len-requires : goal.out_of_line_len-requires
out_of_line_len-requires g c = grind (arith, common_steps)
