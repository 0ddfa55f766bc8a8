-- Writes at a found position, by a closure that is called with the archive.
use Rattle.std.specs.Prelude.{◌≡◌, ℕ, ◌+◌, ◌≤◌, List, Option, length}
use Rattle.std.specs.Borrow.{MutBor}
use Rattle.rkyv_base.specs.{ElementSpec, Viewable}
use Rattle.rkyv_table.specs.Table.Bare.{WritesFound}
use Rattle.rkyv_table.specs.Table.SealedItems.{WrittenBy}

-- `write` can be called with the archive `b` and each position of a valid value
abbrev pub MayWriteIn : {F : Type 0} → (F → MutBor (List ℕ) → ℕ → Type 0) → ElementSpec → F → List ℕ
    → Type 0
MayWriteIn pre s write b =
    (x : MutBor (List ℕ)) (q : ℕ) → x.now ≡ b → q + s.size ≤ length x.now → Viewable s x.now q
    → pre write x q

-- Nothing is found, and the archive is unchanged. Or `write` is called with the archive `b`
-- and the found position. `result`: its result, `c`: bytes afterwards
abbrev pub WritesIn : {F R : Type 0} → (F → MutBor (List ℕ) → ℕ → R → MutBor (List ℕ) → Type 0)
    → F → List ℕ → Option R → List ℕ → Option ℕ → Type 0
WritesIn post write b result c found = WritesFound (WrittenBy post write) b found result c
