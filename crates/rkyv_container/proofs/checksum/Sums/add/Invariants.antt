use Rattle.rkyv_container.proofs.checksum.Sums.add.Given as goal
use Rattle.rkyv_container.proofs.Summing.{AreBlockSums}

abbrev pub invariant-loop-byte : goal.invariant-loop-byte
invariant-loop-byte l =
    AreBlockSums l.fn.self.low l.fn.self.high l.block l.byte-index l.low l.high
