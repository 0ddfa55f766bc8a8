use Rattle.std.proofs.Common.{refl}
use Rattle.rkyv_collections.proofs.FoundThrough.{value_of_key}
use Rattle.rkyv_collections.proofs.map.ArchivedHashMap.index.Goals as goal

pub returns : goal.returns
returns g c =
    let got = rw c.unwrap.ensures at c.entry_of.ensures in
    value_of_key got (c.value.result, refl, c.value.ensures.at, c.value.ensures.viewable)
