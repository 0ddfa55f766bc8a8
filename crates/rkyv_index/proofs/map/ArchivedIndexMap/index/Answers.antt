use Rattle.std.proofs.Common.{refl, rules}
use Rattle.rkyv_index.specs.{IsValueOf}
use Rattle.rkyv_index.proofs.FromIndex.{key_as_part}
use Rattle.rkyv_index.proofs.map.ArchivedIndexMap.index.Goals as goal

pub returns : goal.returns
returns g c =
    let got = rw c.unwrap.ensures at c.index_of_key.ensures in
    let there : IsValueOf c.args.self c.unwrap.result c.value.result = search rules in
    key_as_part IsValueOf got (c.value.result, refl, there)
