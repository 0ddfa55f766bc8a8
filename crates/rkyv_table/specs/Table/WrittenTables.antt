-- The list of pairs from which a table was written.
use Rattle.std.specs.Prelude.{◌≡◌, ℕ, List, slice_get, slice_index, slice_set, Some}
use Rattle.std.specs.Int.{Width}
use Rattle.rkyv_table.specs.Table.Positions.{WrittenAt, home_positions, item_at}
use Rattle.rkyv_table.specs.Table.Layout.{table_spec}
use Rattle.rkyv_table.specs.Table.TableFormat.{TableRepresents}
use Rattle.rkyv_base.specs.{ElementSpec, ModifiesOnly, StaysValid, Viewable}
use Rattle.rkyv_table.specs.Table.PlacedItems.{hashes_of, items_of}

-- the table at `p` was written from the pairs, in this order, and each item is at its home bucket
pub record IsWrittenOf {X : Type 0} (w : Width) (size : ℕ) (represents : List ℕ → ℕ → X
    → Type 0) (c : List ℕ) (p : ℕ) (pairs : List (ℕ × X)) : Type 0 where
  pub homes : List ℕ
  pub written : WrittenAt w c p (hashes_of pairs) homes
  pub at : (i : ℕ) (x : X) → slice_get (items_of pairs) i ≡ Some x
      → represents c (slice_index (home_positions w size c p homes) i) x

-- a table that represents pairs was written from them
abbrev pub RepresentedWereWritten : {X : Type 0} → Width → ElementSpec → (List ℕ → ℕ → X → Type 0)
    → ℕ × ℕ → Type 0
RepresentedWereWritten {X} w s represents factor =
    (c : List ℕ) (p : ℕ) (pairs : List (ℕ × X)) → TableRepresents w s represents factor c p pairs
    → IsWrittenOf w s.size represents c p pairs

-- after a write of one item in place, a table that was written from pairs is one
-- that was written from the pairs with the new item. Its hash is the old item's hash
abbrev pub ItemsWrittenRepresent : {X : Type 0} → Width → ElementSpec → (List ℕ → ℕ → X → Type 0)
    → Type 0
ItemsWrittenRepresent {X} w s represents =
    (b c : List ℕ) (p n hash : ℕ) (pairs : List (ℕ × X)) (old new : X)
    → Viewable (table_spec w s) b p → (of : IsWrittenOf w s.size represents b p pairs)
    → slice_get pairs n ≡ Some (hash, old)
    → ModifiesOnly b (item_at w s.size b p (slice_index of.homes n)) s.size c
    → StaysValid s b c (item_at w s.size b p (slice_index of.homes n))
    → represents c (item_at w s.size b p (slice_index of.homes n)) new
    → IsWrittenOf w s.size represents c p (slice_set pairs n (hash, new))
