use Rattle.std.proofs.Common.{leb}
use Rattle.rkyv_base.proofs.FirstMark.{splat_bitmask}
use Rattle.rkyv_base.proofs.byte_search.NonAsciiByteClass.mask.Goals as goal

pub returns : goal.returns
returns c = splat_bitmask leb 128 c.args.eight c.fits-eight.0
