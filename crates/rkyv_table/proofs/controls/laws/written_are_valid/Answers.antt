use Rattle.rkyv_table.proofs.WrittenAccepted.{accepted_written}
use Rattle.rkyv_table.proofs.controls.laws.written_are_valid.Goals as goal

pub returns : goal.returns
returns c = λ cap hashes xs controls room fits written. accepted_written cap hashes xs controls room written (λ j l. fits j 0 l)
