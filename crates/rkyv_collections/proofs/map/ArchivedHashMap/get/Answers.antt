use Rattle.rkyv_collections.proofs.FoundThrough.{value_of_key}
use Rattle.rkyv_collections.proofs.map.ArchivedHashMap.get.Goals as goal

pub returns : goal.returns
returns g c = value_of_key c.entry_of.ensures c.found_value.ensures
