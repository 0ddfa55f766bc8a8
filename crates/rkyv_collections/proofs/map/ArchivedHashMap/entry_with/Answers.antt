use Rattle.std.proofs.Common.{refl}
use Rattle.rkyv_base.specs.{pos_of_found}
use Rattle.rkyv_keys.specs.{hash_at}
use Rattle.rkyv_collections.proofs.FoundEntries.{accepted_by_key, entry_found, first_by_key, found_by_key}
use Rattle.rkyv_collections.proofs.map.ArchivedHashMap.entry_with.Goals as goal

pub returns-clause-found : goal.returns-clause-found
returns-clause-found g c =
    let post = goal.F-post g c.args.cmp c.args.key in
    let t = c.table.result in
    let at = c.table.ensures.at in
    let result = c.get_with.result in
    let got = c.get_with.ensures in
    record {
      walked = entry_found c.args.self t at result got.walked;
      accepted = (pos_of_found result, refl, accepted_by_key c.args.self t at _ post _ _ c.hash_value-hash.ensures result got (λ entry r e. e.1));
      finds = found_by_key c.args.self t at _ post _ _ c.hash_value-hash.ensures result got.finds (λ entry r e. e.1);
      first = first_by_key c.args.self t at _ post _ _ c.hash_value-hash.ensures result got.first (λ entry r e. e.1) (hash_at g.H.KeyHasher.hasher g.K.KeyElement.key_calls);
    }
