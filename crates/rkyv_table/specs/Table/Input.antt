-- The input of a table.
use Rattle.std.specs.Prelude.{◌≡◌, ℕ, List, length, MatchResult, Option, Result}
use Rattle.std.specs.Iterator.{Drains}
use Rattle.rkyv_table.specs.Table.Counting.{CountsDiffer, YieldsBoth, YieldsOtherCount}
use Rattle.rkyv_table.specs.Table.PlacedItems.{ArePlaced}

-- an input. `yields`: its items, `yields_other_count`: another number of items than a claimed one
pub record Input (X : Type 0) : Type 1 where
  pub yields : List X → Type 0
  pub yields_other_count : ℕ → ℕ → Type 0

-- the items of one iterator
abbrev pub from_iter : {S A : Type 0} → (S → Option A → S → Type 0) → S → Input A
from_iter steps s = record {
  yields = Drains steps s;
  yields_other_count = λ len. YieldsOtherCount steps len s;
}

-- the items of an iterator, each with the next hash of another
abbrev pub from_both : {S A T : Type 0} → (S → Option A → S → Type 0)
    → (T → Option ℕ → T → Type 0) → S → T → Input (ℕ × A)
from_both items hashes s t = record {
  yields = YieldsBoth items hashes s t;
  yields_other_count = λ len. CountsDiffer items hashes len s t;
}

-- the input has `len` pairs, and their items are placed; or the result is another number of pairs
abbrev pub PlacesInput : {X : Type 0} → Input (ℕ × X) → ℕ → ℕ → List (Option X) → List ℕ
    → Result Unit ℕ → Type 0
PlacesInput {X} input len cap slots controls result = MatchResult result
    (λ _. (pairs : List (ℕ × X)) × input.yields pairs × (length pairs ≡ len)
    × ArePlaced cap pairs slots controls)
    (input.yields_other_count len)
