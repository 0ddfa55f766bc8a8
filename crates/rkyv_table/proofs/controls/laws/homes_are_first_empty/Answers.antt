use Rattle.rkyv_table.proofs.FirstFree.{first_of_all}
use Rattle.rkyv_table.proofs.controls.laws.homes_are_first_empty.Goals as goal

pub returns : goal.returns
returns c = first_of_all
