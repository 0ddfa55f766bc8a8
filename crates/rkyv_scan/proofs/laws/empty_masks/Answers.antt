use Rattle.std.proofs.Common.{refl}
use Rattle.rkyv_scan.specs.{flag_indices, indices_where}
use Rattle.rkyv_scan.proofs.Bits.{no_indices}
use Rattle.rkyv_scan.proofs.laws.empty_masks.Goals as goal

pub returns-clause-bytewise : goal.returns-clause-bytewise
unfolding flag_indices indices_where
returns-clause-bytewise c = refl

pub returns-clause-generic : goal.returns-clause-generic
returns-clause-generic c = no_indices 8 7 8

pub returns-clause-lanes : goal.returns-clause-lanes
returns-clause-lanes c = no_indices 1 0 16
