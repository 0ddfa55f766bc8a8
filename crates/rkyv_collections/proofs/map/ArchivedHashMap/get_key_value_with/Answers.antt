use Rattle.rkyv_collections.proofs.FoundThrough.{pair_by}
use Rattle.rkyv_collections.proofs.map.ArchivedHashMap.get_key_value_with.Goals as goal

pub returns : goal.returns
returns g c = pair_by c.entry_with.ensures.found c.found_pair.ensures
