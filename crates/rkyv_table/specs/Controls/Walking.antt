-- The remaining buckets of a walk over the full buckets.
use Rattle.std.specs.Prelude.{◌≡◌, ℕ, ◌+◌, ◌-◌, ◌≤◌, List, ◌++◌, map, filter, length, ltb}
use Rattle.std.specs.Prelude.{slice_index, slice_index_or}
use Rattle.std.specs.List.{range_with_len}
use Rattle.rkyv_scan.specs.{is_full}
use Rattle.rkyv_table.specs.Controls.Numbers.{control_count}

-- the full buckets from `b` on and below `cap`
unfoldable pub full_from : List ℕ → ℕ → ℕ → List ℕ
full_from controls cap b = filter (λ q. is_full (slice_index controls q))
    (range_with_len b (cap - b))

-- the first of `indices`, or `width`
abbrev pub first_index : ℕ → List ℕ → ℕ
first_index width indices = slice_index_or indices 0 width

-- the invariant of a walk. All control bytes are there, and `indices` are the full indices
-- of the group at `base`, from the first of them on
pub record IsWalk (controls : List ℕ) (cap base width : ℕ) (indices : List ℕ) : Type 0 where
  pub count : control_count cap ≤ length controls
  pub below : base ≤ cap
  pub inside : first_index width indices ≤ width
  pub marks : indices ≡ filter (λ j. is_full (slice_index controls (base + j)))
      (range_with_len (first_index width indices) (width - first_index width indices))

-- the remaining buckets of a walk: the current mask's below `cap`, and the full buckets
-- of the groups after it
unfoldable pub left : List ℕ → ℕ → ℕ → ℕ → List ℕ → List ℕ
left controls cap base width indices =
    filter (λ q. ltb q cap) (map (λ j. base + j) indices) ++ full_from controls cap (base + width)
