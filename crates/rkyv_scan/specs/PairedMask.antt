-- The indices of a mask of a group of two halves.
use Rattle.std.specs.Prelude.{List, if◌then◌else◌, ℕ}
use Rattle.rkyv_scan.specs.Groups.{indices_where, mask_indices}
use Rattle.rkyv_scan.specs.Masks.{group_lanes, mask_bits}
use Rattle.rkyv_scan.specs.Paired.{is_half_match_at}
use Rattle.rkyv_scan.specs.declared.simd.paired.bitmask.Bitmask.{Bitmask as PairedMask}

-- the marked indices: the known bits' if the mask is whole, else the match's
abbrev pub paired_indices : PairedMask → List ℕ
paired_indices m = if m.is_whole then mask_indices 1 0 16 (mask_bits m.known)
    else indices_where (is_half_match_at (group_lanes m.both) m.byte) 16
