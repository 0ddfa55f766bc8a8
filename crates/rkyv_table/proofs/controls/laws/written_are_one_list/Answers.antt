use Rattle.rkyv_table.proofs.HomeList.{written_one_list}
use Rattle.rkyv_table.proofs.controls.laws.written_are_one_list.Goals as goal

pub returns : goal.returns
returns c = written_one_list
