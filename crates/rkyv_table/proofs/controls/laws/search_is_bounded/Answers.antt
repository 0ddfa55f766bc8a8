use Rattle.rkyv_table.proofs.Lookup.{end_within}
use Rattle.rkyv_table.proofs.controls.laws.search_is_bounded.Goals as goal

pub returns : goal.returns
returns c = λ kind cap len hash controls accept accepted. end_within kind controls cap len hash accept accepted
