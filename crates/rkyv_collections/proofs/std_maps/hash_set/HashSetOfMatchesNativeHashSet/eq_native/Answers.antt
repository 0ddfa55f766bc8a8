use Rattle.std.proofs.Common.{arith}
use Rattle.rkyv_collections.proofs.std_maps.hash_set.HashSetOfMatchesNativeHashSet.eq_native.Goals as goal

pub returns : goal.returns
returns g c = grind arith
