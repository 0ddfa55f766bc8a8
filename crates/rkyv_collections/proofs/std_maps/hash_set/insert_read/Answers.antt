use Rattle.rkyv_collections.specs.Lemmas.StoredKeys.{key_put}
use Rattle.rkyv_collections.proofs.std_maps.hash_set.insert_read.Goals as goal
use Rattle.std.proofs.Common.{arith}
use Rattle.std.proofs.lemmas.Grind.{common_steps}

pub returns : goal.returns
returns g c = grind (arith, common_steps, key_put)
