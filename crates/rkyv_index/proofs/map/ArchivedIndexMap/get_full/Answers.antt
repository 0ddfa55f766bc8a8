use Rattle.std.proofs.Common.{refl, arith}
use Rattle.rkyv_index.specs.{full_part}
use Rattle.rkyv_index.proofs.FromIndex.{key_as}
use Rattle.rkyv_index.proofs.map.ArchivedIndexMap.get_full.Goals as goal

pub returns : goal.returns
returns g c = grind (arith, key_as)

pub returns-in_err-index : goal.returns-in_err-index
returns-in_err-index g c = rw c.from_residual.ensures (key_as full_part c.in_err-index.ensures tt refl)
