-- The slots into which a list of pairs of hash and item is put.
use Rattle.std.specs.Prelude.{◌≡◌, ℕ, ◌<◌, List, map, length, true, slice_index, slice_get, Option}
use Rattle.std.specs.Prelude.{None, Some}
use Rattle.rkyv_table.specs.Controls.Laws.{AreHashes}
use Rattle.rkyv_table.specs.Controls.Placing.{AreWrittenControls, is_free}
use Rattle.rkyv_table.specs.Table.Slots.{filled}

-- the hashes of the pairs
abbrev pub hashes_of : {X : Type 0} → List (ℕ × X) → List ℕ
hashes_of pairs = map (λ x. x.0) pairs

-- the items of the pairs
abbrev pub items_of : {X : Type 0} → List (ℕ × X) → List X
items_of pairs = map (λ x. x.1) pairs

-- each item is in its home bucket, and every other slot is empty
pub record AreInSlots {X : Type 0} (cap : ℕ) (homes : List ℕ) (items : List X)
    (slots : List (Option X)) : Type 0 where
  pub count : length slots ≡ cap
  pub full : filled slots ≡ length homes
  pub items_count : length items ≡ length homes
  pub at : (i : ℕ) (x : X) → slice_get items i ≡ Some x
      → slice_get slots (slice_index homes i) ≡ Some (Some x)
  pub others : (b : ℕ) → b < cap → is_free homes b ≡ true → slice_get slots b ≡ Some None

-- the items are in the home buckets of their hashes, and the control bytes are those
-- of a written table
pub record ArePlaced {X : Type 0} (cap : ℕ) (pairs : List (ℕ × X)) (slots : List (Option X))
    (controls : List ℕ) : Type 0 where
  pub homes : List ℕ
  pub hashes : AreHashes (hashes_of pairs)
  pub written : AreWrittenControls cap (hashes_of pairs) homes controls
  pub slotted : AreInSlots cap homes (items_of pairs) slots

-- some pairs are placed, and there is an empty bucket for one more
abbrev pub HasEmptyBucket : {X : Type 0} → ℕ → List (Option X) → List ℕ → Type 0
HasEmptyBucket {X} cap slots controls =
    (pairs : List (ℕ × X)) × (length pairs < cap) × ArePlaced cap pairs slots controls
