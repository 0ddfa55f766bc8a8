-- The indices of a group of control bytes that a mask marks.
use Rattle.std.specs.Prelude.{Bool, List, [], bit_xor, false, nat_le, nat_lt, slice_index}
use Rattle.std.specs.Prelude.{slice_index_or, suc, true, zero, ℕ, ◌&&◌, ◌*◌, ◌+◌, ◌<◌, ◌==◌, ◌^◌}
use Rattle.std.specs.Prelude.{◌||◌, ◌∷◌, ◌≡◌, ◌≤◌}
use Rattle.std.specs.List.{filter, range_with_len}
use Rattle.std.specs.Int.{bit_at}

-- the indices below `n` that pass `test`, ascending
unfoldable pub indices_where : (ℕ → Bool) → ℕ → List ℕ
indices_where test n = filter test (range_with_len 0 n)

-- each number is below `end`
abbrev pub AllBelow : ℕ → List ℕ → Type 0
AllBelow end [] = Unit {0}
AllBelow end (x ∷ xs) = (x < end) × AllBelow end xs

-- `control`: control byte. It is empty if its high bit is set
abbrev pub is_empty : ℕ → Bool
is_empty control = nat_le 128 control

-- `control`: control byte. It is full if it is below 128, and is then the tag of its item
abbrev pub is_full : ℕ → Bool
is_full control = nat_lt control 128

-- the control byte at `index` is `byte`
abbrev pub is_equal_at : List ℕ → ℕ → ℕ → Bool
is_equal_at controls byte index = slice_index controls index == byte

-- the control byte at `index` is `byte`, or differs from it only in the lowest bit
-- and follows an index that matches
abbrev pub is_word_match_at : List ℕ → ℕ → ℕ → Bool
is_word_match_at controls byte zero = is_equal_at controls byte 0
is_word_match_at controls byte (suc index) =
    is_equal_at controls byte (suc index)
    || (is_equal_at controls (bit_xor byte 1) (suc index) && is_word_match_at controls byte index)

-- the indices below `count` whose bit is set in `bits`. The bit of index k
-- is the bit `spacing * k + offset`
unfoldable pub mask_indices : ℕ → ℕ → ℕ → ℕ → List ℕ
mask_indices spacing offset count bits =
    indices_where (λ index. bit_at bits (spacing * index + offset) == 1) count

-- a kind of group. `width`: control bytes in a group, `marks`: indices marked for a byte
pub record Kind : Type 0 where
  pub width : ℕ
  pub marks : List ℕ → ℕ → ℕ → Bool

-- the laws of a kind of group: its width divides sixteen, each index with the byte is marked,
-- and the lowest marked index has the byte. For a byte below 128, each marked index is full
pub record IsKind (kind : Kind) : Type 0 where
  pub power : (k : ℕ) × (k ≤ 4) × (kind.width ≡ 2 ^ k)
  pub equal : (controls : List ℕ) (byte index : ℕ) → index < kind.width
      → slice_index controls index ≡ byte → kind.marks controls byte index ≡ true
  pub full : (controls : List ℕ) (byte index : ℕ) → byte < 128
      → kind.marks controls byte index ≡ true → slice_index controls index < 128
  pub lowest : (controls : List ℕ) (byte index : ℕ) → kind.marks controls byte index ≡ true
      → ((lower : ℕ) → lower < index → kind.marks controls byte lower ≡ false)
      → slice_index controls index ≡ byte

-- the kind with eight control bytes that marks the equal ones
abbrev pub bytewise_kind : Kind
bytewise_kind = record { width = 8; marks = is_equal_at }

-- the kind with eight control bytes that marks as `is_word_match_at` says
abbrev pub generic_kind : Kind
generic_kind = record { width = 8; marks = is_word_match_at }

-- the kind with sixteen control bytes that marks the equal ones
abbrev pub lanes_kind : Kind
lanes_kind = record { width = 16; marks = is_equal_at }

-- the indices of the set flags, of eight
unfoldable pub flag_indices : List Bool → List ℕ
flag_indices flags = indices_where (λ index. slice_index_or flags index false) 8

-- `first`: index of the first set flag of eight, or 8
pub record IsFirstFlag (flags : List Bool) (first : ℕ) : Type 0 where
  pub within : first ≤ 8
  pub below : (index : ℕ) → index < first → slice_index_or flags index false ≡ false
  pub set : first < 8 → slice_index_or flags first false ≡ true
