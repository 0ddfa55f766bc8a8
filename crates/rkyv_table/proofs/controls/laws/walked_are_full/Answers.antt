use Rattle.rkyv_table.proofs.Walks.{full_walked, walked_full}
use Rattle.rkyv_table.proofs.controls.laws.walked_are_full.Goals as goal

pub returns : goal.returns
returns c = λ cap bucket controls. (walked_full cap controls bucket, full_walked cap controls bucket)
