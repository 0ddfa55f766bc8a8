use Rattle.rkyv_table.proofs.HomeList.{homes_exist}
use Rattle.rkyv_table.proofs.controls.laws.homes_exist.Goals as goal

pub returns : goal.returns
returns c = homes_exist
