use Rattle.rkyv_collections.proofs.map.ArchivedHashMap.contains_key.Goals as goal

pub returns : goal.returns
returns g c =
    let found_at = c.is_found.ensures in
    let key = c.entry_of.ensures in
    record { finds = found_at _ key.finds; first = λ homes written. found_at _ (key.first homes written); complete = λ none. let one = key.complete none in (one.0, one.1, found_at one.0 one.2) }
