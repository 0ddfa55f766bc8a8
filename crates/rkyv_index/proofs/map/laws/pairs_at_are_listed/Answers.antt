use Rattle.rkyv_keys.specs.{native_pairs}
use Rattle.rkyv_index.proofs.ListedAt.{pairs_at}
use Rattle.rkyv_index.proofs.map.laws.pairs_at_are_listed.Goals as goal

pub returns : goal.returns
returns g c = pairs_at _ _ _ _ (native_pairs g.K.Represents.represents g.V.Represents.represents g.H.KeyHasher.hasher g.K.KeyElement.key_calls)
