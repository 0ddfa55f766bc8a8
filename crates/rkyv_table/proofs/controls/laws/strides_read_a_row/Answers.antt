use Rattle.rkyv_table.proofs.Coverage.{read_row, row_inside}
use Rattle.rkyv_table.proofs.controls.laws.strides_read_a_row.Goals as goal

pub returns : goal.returns
returns c = λ hash cap q some. (read_row hash cap q some, row_inside hash cap q)
