-- The marks of masks and the control bytes of groups, by their kind.
use Rattle.std.specs.Prelude.{ℕ, Bool, List}
use Rattle.rkyv_scan.specs.declared.simd.bytewise.Bitmask.{Bitmask as FlagMask}
use Rattle.rkyv_scan.specs.declared.simd.bytewise.Group.{Group as ByteGroup}
use Rattle.rkyv_scan.specs.declared.simd.generic.Bitmask.{Bitmask as WordMask}
use Rattle.rkyv_scan.specs.declared.simd.generic.Group.{Group as WordGroup}
use Rattle.rkyv_scan.specs.declared.simd.lanes.Bitmask.{Bitmask as BitMask}
use Rattle.rkyv_scan.specs.declared.simd.lanes.Group.{Group as LaneGroup}
use Rattle.rkyv_scan.specs.declared.simd.paired.Group.{Group as PairedGroup}

-- the flags of a mask of eight flags
abbrev pub mask_flags : FlagMask → List Bool
mask_flags m = m.marks

-- the word of a mask whose marks are high bits of its bytes
abbrev pub mask_word : WordMask → ℕ
mask_word m = m.bits

-- the bits of a mask of sixteen bits
abbrev pub mask_bits : BitMask → ℕ
mask_bits m = m.bits

-- the control bytes of a group of eight bytes
abbrev pub group_bytes : ByteGroup → List ℕ
group_bytes g = g.bytes

-- the word of a group
abbrev pub group_word : WordGroup → ℕ
group_word g = g.word

-- the control bytes of a group in one vector
abbrev pub group_lanes : LaneGroup → List ℕ
group_lanes g = g.lanes

-- the control bytes of a group of two halves
abbrev pub paired_lanes : PairedGroup → List ℕ
paired_lanes g = group_lanes g.both
