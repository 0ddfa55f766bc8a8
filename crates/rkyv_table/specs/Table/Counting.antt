-- The number of items of an iterator, counted up to one more than a claimed number.
use Rattle.std.specs.Prelude.{◌≡◌, ◌≢◌, ℕ, ◌+◌, ◌≤◌, ◌⊎◌, List, length, Option}
use Rattle.std.specs.Iterator.{Drains, Yields}
use Rattle.rkyv_table.specs.Table.PlacedItems.{hashes_of, items_of}

-- `n`: number of items from `s` on, counted on from `before`. It is exact up to `len`,
-- and `len + 1` if there are more
abbrev pub CountedOn : {S A : Type 0} → (S → Option A → S → Type 0) → ℕ → S → ℕ → ℕ → Type 0
CountedOn {S} {A} steps len s before n =
    (xs : List A) × (n ≡ before + length xs)
    × (((n ≤ len) × Drains steps s xs) ⊎ ((n ≡ len + 1) × ((t : S) × Yields steps s xs t)))

-- `n`: number of items, counted up to `len + 1`
abbrev pub Counted : {S A : Type 0} → (S → Option A → S → Type 0) → ℕ → S → ℕ → Type 0
Counted steps len s n = CountedOn steps len s 0 n

-- `n`: number of items, counted up to `len + 1`, which is not `len`
abbrev pub YieldsOtherCount : {S A : Type 0} → (S → Option A → S → Type 0) → ℕ → S → ℕ → Type 0
YieldsOtherCount steps len s n = Counted steps len s n × (n ≢ len)

module _ {S A T : Type 0} (items : S → Option A → S → Type 0) (hashes : T → Option ℕ → T
    → Type 0) where
  -- `pairs`: all items and all hashes of the two iterators, as pairs
  abbrev pub YieldsBoth : S → T → List (ℕ × A) → Type 0
  YieldsBoth s t pairs = Drains items s (items_of pairs) × Drains hashes t (hashes_of pairs)

  -- `n`: number of items, which is not `len`, or else number of hashes, which is not `len`
  abbrev pub CountsDiffer : ℕ → S → T → ℕ → Type 0
  CountsDiffer len s t n = YieldsOtherCount items len s n ⊎ (Counted items len s len
      × YieldsOtherCount hashes len t n)
