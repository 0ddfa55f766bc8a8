-- Lemmas: the indices of a mask of a group of two halves.
use Rattle.std.specs.List.Sorted.{IsStrictlyIncreasing}
use Rattle.std.proofs.lemmas.Bool.{cond_both}
use Rattle.rkyv_scan.specs.{group_lanes, is_half_match_at, mask_bits, paired_indices}
use Rattle.rkyv_scan.specs.Lemmas.Ascending.{indices_ascend, mask_ascends}
use Rattle.rkyv_scan.specs.declared.simd.paired.bitmask.Bitmask.{Bitmask as PairedMask}

pub paired_ascends : (m : PairedMask) → IsStrictlyIncreasing (paired_indices m)
paired_ascends m = cond_both m.is_whole _ _ IsStrictlyIncreasing
    (λ _. mask_ascends 1 0 16 (mask_bits m.known))
    (λ _. indices_ascend (is_half_match_at (group_lanes m.both) m.byte) 16)
