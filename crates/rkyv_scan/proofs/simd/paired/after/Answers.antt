use Rattle.std.proofs.Common.{refl}
use Rattle.rkyv_scan.specs.{bits_after}
use Rattle.rkyv_scan.proofs.simd.paired.after.Goals as goal

pub returns : goal.returns
unfolding bits_after
returns c = refl
