use Rattle.rkyv_collections.proofs.FoundThrough.{pair_of_key}
use Rattle.rkyv_collections.proofs.map.ArchivedHashMap.get_key_value.Goals as goal

pub returns : goal.returns
returns g c = pair_of_key c.entry_of.ensures c.found_pair.ensures
