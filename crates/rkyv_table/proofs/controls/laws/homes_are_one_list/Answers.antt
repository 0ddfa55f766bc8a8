use Rattle.rkyv_table.proofs.HomeList.{homes_one_list}
use Rattle.rkyv_table.proofs.controls.laws.homes_are_one_list.Goals as goal

pub returns : goal.returns
returns c = homes_one_list
