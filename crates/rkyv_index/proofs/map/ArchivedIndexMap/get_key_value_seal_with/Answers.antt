use Rattle.rkyv_index.proofs.FoundValues.{found_by_at}
use Rattle.rkyv_index.proofs.map.ArchivedIndexMap.get_key_value_seal_with.Goals as goal

pub returns-clause-finds : goal.returns-clause-finds
returns-clause-finds g c = found_by_at c.pair_seal_of.ensures.at c.index_with_in-index.ensures.finds
