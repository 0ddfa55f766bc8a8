use Rattle.rkyv_table.proofs.Lookup.{marked_walked}
use Rattle.rkyv_table.proofs.controls.laws.marked_are_walked.Goals as goal

pub returns : goal.returns
returns c = λ kind cap len hash tag p q controls law accepted small here from to mark. marked_walked kind cap len hash tag p q controls law accepted small here from to mark
