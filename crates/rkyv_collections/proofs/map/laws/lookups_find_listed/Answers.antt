use Rattle.rkyv_keys.specs.{native_pairs}
use Rattle.rkyv_collections.proofs.ListedLookups.{lookups_listed}
use Rattle.rkyv_collections.proofs.map.laws.lookups_find_listed.Goals as goal

pub returns : goal.returns
returns g c = lookups_listed _ _ _ _ (native_pairs g.K.Represents.represents g.V.Represents.represents g.H.KeyHasher.hasher g.K.KeyElement.key_calls)
