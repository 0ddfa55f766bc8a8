-- The remaining items of a walk over a table.
use Rattle.std.specs.Prelude.{◌≡◌, ℕ, ◌↔◌, ◌+◌, ◌-◌, ◌*◌, ◌≤◌, List, ◌++◌, Option, length, map}
use Rattle.std.specs.Prelude.{take}
use Rattle.std.specs.Borrow.{Bor}
use Rattle.std.specs.Iterator.{Count, YieldsFirst, at_most}
use Rattle.std.specs.List.{All}
use Rattle.rkyv_base.specs.{ElementSpec, Viewable}
use Rattle.rkyv_table.specs.Controls.Walking.{full_from}

-- the archive, and the positions of the remaining items
pub record ItemsLeft : Type 0 where
  pub archive : Bor (List ℕ)
  pub positions : List ℕ

-- a step takes the first of the positions, and keeps the archive
pub record YieldsPos (before : ItemsLeft) (result : Option ℕ) (after : ItemsLeft) : Type 0 where
  pub takes : YieldsFirst (λ (left : ItemsLeft). left.positions) before result after
  pub archive : after.archive ≡ before.archive

-- calls of `next` relate the same states and results under both
abbrev pub SameSteps : {S I : Type 0} → (S → Option I → S → Type 0) → (S → Option I → S → Type 0)
    → Type 0
SameSteps {S} {I} steps other =
    (before : S) (result : Option I) (after : S)
    → steps before result after ↔ other before result after

-- `remaining`: at most as many items as positions are left
abbrev pub CountsPositions : (ItemsLeft → Count) → Type 0
CountsPositions remaining =
    (left : ItemsLeft) → remaining left ≡ at_most (length left.positions)

-- the position of bucket `i` before the position `buckets_end`
abbrev pub pos_before : ℕ → ℕ → ℕ → ℕ
pos_before buckets_end size i = buckets_end - (i + 1) * size

-- the full indices from the marks of the current group on
unfoldable pub marked_left : List ℕ → ℕ → List ℕ → List ℕ
marked_left controls base marks =
    map (λ j. base + j) marks ++ full_from controls (length controls) (base + 8)

-- the remaining buckets: the first `count` of them
unfoldable pub buckets_left : ℕ → List ℕ → ℕ → List ℕ → List ℕ
buckets_left count controls base marks = take count (marked_left controls base marks)

-- the positions of the remaining buckets. `buckets_end`: position at which the current group ends
abbrev pub positions_left : ℕ → ℕ → ℕ → List ℕ → ℕ → List ℕ → List ℕ
positions_left buckets_end size count controls base marks =
    map (pos_before (buckets_end + base * size) size) (buckets_left count controls base marks)

-- the group of bucket `i` is inside the control bytes, and the bucket is before `buckets_end`
abbrev pub IsAhead : ℕ → ℕ → List ℕ → ℕ → Type 0
IsAhead buckets_end size controls i = (i + 8 ≤ length controls) × ((i + 1) * size ≤ buckets_end)

-- the invariant of a walk: `count` buckets remain, and each is before the first control byte
pub record IsRawIter (buckets_end size count : ℕ) (controls : List ℕ) (base : ℕ)
    (marks : List ℕ) : Type 0
  where
    pub counted : count ≡ length (buckets_left count controls base marks)
    pub ahead : All (IsAhead (buckets_end + base * size) size controls)
        (buckets_left count controls base marks)

-- the archive has a valid value at each remaining position
abbrev pub AllValid : ElementSpec → ItemsLeft → Type 0
AllValid s left = All (Viewable s left.archive.now) left.positions
