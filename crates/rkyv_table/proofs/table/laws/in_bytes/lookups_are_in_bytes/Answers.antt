use Rattle.rkyv_table.proofs.InBytes.{looked_up_in_bytes}
use Rattle.rkyv_table.proofs.table.laws.in_bytes.lookups_are_in_bytes.Goals as goal

pub returns : goal.returns
returns g c = λ cmp. looked_up_in_bytes (goal.F-post g cmp)
