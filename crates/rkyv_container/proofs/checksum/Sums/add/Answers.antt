use Rattle.std.proofs.Common.{arith}
use Rattle.rkyv_container.proofs.Summing.{sums_more}
use Rattle.rkyv_container.proofs.checksum.Sums.add.Goals as goal

pub loop-byte-preserved : goal.loop-byte-preserved
loop-byte-preserved c =
    sums_more _ _ c.args.block.now _ _ _ _ c.requires.block c.loop-byte-test.true c.from-low.ensures
    (omega (arith, c.type_inv.block c.loop-byte.byte-index)) c.loop-byte.invariant
