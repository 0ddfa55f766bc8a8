use Rattle.std.proofs.Common.{◌∙◌, sym}
use Rattle.rkyv_scan.proofs.Paired.{known_first}
use Rattle.rkyv_scan.proofs.simd.paired.BitmaskMarks.lowest_set_bit.Goals as goal

pub returns : goal.returns
returns c = c.lowest_set_bit.ensures ∙ sym (known_first c.args.self)
