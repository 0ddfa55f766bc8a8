use Rattle.rkyv_scan.proofs.HashLaws.{fixed_alike}
use Rattle.rkyv_scan.proofs.laws.fixed_calls_hash_alike.Goals as goal

pub returns : goal.returns
returns c = fixed_alike
