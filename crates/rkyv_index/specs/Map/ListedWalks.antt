-- Walks over index maps and index sets that represent lists.
use Rattle.std.specs.Prelude.{ℕ, List}
use Rattle.std.specs.Int.{Width}
use Rattle.std.specs.List.{AllZip}
use Rattle.rkyv_base.specs.{ElementSpec, PairRepresents, entry_spec, unit_spec}
use Rattle.rkyv_keys.specs.{NativePairs}
use Rattle.rkyv_index.specs.Map.{pair_positions}
use Rattle.rkyv_index.specs.Map.IndexFormat.{IndexRepresents}
use Rattle.rkyv_index.specs.Set.SetFormat.{IndexSetRepresents}

-- in an index map that represents a list of pairs, the positions of a walk have the pairs,
-- in order
abbrev pub WalksVisitInOrder : {A B : Type 0} → Width → ElementSpec → ElementSpec
    → NativePairs A B → Type 0
WalksVisitInOrder {A} {B} w k v native =
    (factor : ℕ × ℕ) (b : List ℕ) (p : ℕ) (pairs : List (A × B))
    → IndexRepresents w k v native.key native.value native.key_hash factor b p pairs
    → AllZip (PairRepresents k v native.key native.value b)
    (pair_positions w (entry_spec k v).size b p) pairs

-- in an index set that represents a list of keys, the positions of a walk have the keys,
-- in order
abbrev pub SetWalksVisitInOrder : {A : Type 0} → Width → ElementSpec → (List ℕ → ℕ → A → Type 0)
    → (List ℕ → ℕ → ℕ) → Type 0
SetWalksVisitInOrder {A} w k key key_hash =
    (factor : ℕ × ℕ) (b : List ℕ) (p : ℕ) (keys : List A)
    → IndexSetRepresents w k key key_hash factor b p keys
    → AllZip (key b) (pair_positions w (entry_spec k unit_spec).size b p) keys
