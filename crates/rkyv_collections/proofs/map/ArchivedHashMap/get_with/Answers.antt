use Rattle.rkyv_collections.proofs.FoundThrough.{value_by}
use Rattle.rkyv_collections.proofs.map.ArchivedHashMap.get_with.Goals as goal

pub returns : goal.returns
returns g c = value_by c.entry_with.ensures.found c.found_value.ensures
