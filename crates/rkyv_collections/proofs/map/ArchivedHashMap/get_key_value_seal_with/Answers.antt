use Rattle.std.proofs.Common.{arith}
use Rattle.std.proofs.lemmas.Grind.{common_steps}
use Rattle.rkyv_collections.proofs.map.ArchivedHashMap.get_key_value_seal_with.Goals as goal

pub returns-clause-finds : goal.returns-clause-finds
returns-clause-finds g c = grind (arith, common_steps)
