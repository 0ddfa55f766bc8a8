-- Walks over a map or a set that represents a list, in terms of the list.
use Rattle.std.specs.Prelude.{◌≡◌, ℕ, List, Some, slice_get, slice_index}
use Rattle.std.specs.Int.{Width}
use Rattle.std.specs.List.{AllZip}
use Rattle.std.specs.List.Sorted.{IsPermutation}
use Rattle.rkyv_base.specs.{ElementSpec, PairRepresents, entry_spec, unit_spec}
use Rattle.rkyv_table.specs.{WalkVisits, item_at, item_positions}
use Rattle.rkyv_collections.specs.Map.MapFormat.{MapRepresents}
use Rattle.rkyv_collections.specs.Set.SetFormat.{SetRepresents}

-- the positions of the keys of the map at `p`, in bucket order, with which its walks begin
abbrev pub key_positions_at : Width → ElementSpec → ElementSpec → List ℕ → ℕ → List ℕ
key_positions_at w k v b p = item_positions w (entry_spec k v).size b p

-- The positions have the items of the list, each once, and no others.
-- `reordered` is the list in another order: its items are at the positions in turn
pub record HasEachOnce {X : Type 0} (Related : ℕ → X → Type 0) (positions : List ℕ)
    (items : List X) : Type 0 where
  pub reordered : List X
  pub each : IsPermutation items reordered
  pub related : AllZip Related positions reordered

module _ {A B : Type 0} (w : Width) (k v : ElementSpec) (key : List ℕ → ℕ → A → Type 0)
    (value : List ℕ → ℕ → B → Type 0) (key_hash : List ℕ → ℕ → ℕ) where
  -- In a map that represents a list, a walk visits the home bucket of each pair once,
  -- in ascending order, and no other bucket. The n-th home bucket has the n-th pair
  abbrev pub WalksVisitPairs : Type 0
  WalksVisitPairs = (factor : ℕ × ℕ) (b : List ℕ) (p : ℕ) (pairs : List (A × B))
      → (represents : MapRepresents w k v key value key_hash factor b p pairs)
      → WalkVisits w b p represents.homes
      × ((n : ℕ) (pair : A × B) → slice_get pairs n ≡ Some pair → PairRepresents k v key value b
      (item_at w (entry_spec k v).size b p (slice_index represents.homes n)) pair)

  -- in a map that represents a list of pairs, the positions of a walk have each pair once,
  -- and no others
  abbrev pub WalksVisitEach : Type 0
  WalksVisitEach = (factor : ℕ × ℕ) (b : List ℕ) (p : ℕ) (pairs : List (A × B))
      → MapRepresents w k v key value key_hash factor b p pairs
      → HasEachOnce (PairRepresents k v key value b) (key_positions_at w k v b p) pairs

-- in a set that represents a list of keys, the positions of a walk have each key once,
-- and no others
abbrev pub SetWalksVisitEach : {A : Type 0} → Width → ElementSpec → (List ℕ → ℕ → A → Type 0)
    → (List ℕ → ℕ → ℕ) → Type 0
SetWalksVisitEach {A} w k key key_hash = (factor : ℕ × ℕ) (b : List ℕ) (p : ℕ) (keys : List A)
    → SetRepresents w k key key_hash factor b p keys
    → HasEachOnce (key b) (key_positions_at w k unit_spec b p) keys
