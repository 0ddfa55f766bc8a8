use Rattle.rkyv_index.proofs.FoundValues.{found_at}
use Rattle.rkyv_index.proofs.map.ArchivedIndexMap.get_seal.Goals as goal

pub returns-clause-finds : goal.returns-clause-finds
returns-clause-finds g c = found_at c.value_seal_of.ensures.at c.index_of_key_in-index.ensures.finds
