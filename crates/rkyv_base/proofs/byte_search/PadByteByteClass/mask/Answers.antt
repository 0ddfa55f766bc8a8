use Rattle.std.proofs.Common.{arith, eqb, w8}
use Rattle.std.proofs.lemmas.Simd.{bitmask_splat}
use Rattle.rkyv_base.proofs.byte_search.PadByteByteClass.mask.Goals as goal

pub returns : goal.returns
returns c = bitmask_splat w8 eqb c.args.eight 8 255 c.fits-eight.0 (omega arith)
