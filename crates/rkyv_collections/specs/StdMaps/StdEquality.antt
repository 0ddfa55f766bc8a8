-- The equality of an archived map and a std map.
use Rattle.rkyv_base.specs.declared.element.HasSpec.{Ghosts as Specs}
use Rattle.rkyv_base.specs.declared.width.Word.{Ghosts as Words}
use Rattle.std.specs.Prelude.{◌≡◌, ℕ, ◌+◌, List, length, Bool, IsSomeAnd}
use Rattle.std.specs.HashMap.{HashMap}
use Rattle.std.specs.Int.{Width}
use Rattle.std.specs.List.{All}
use Rattle.rkyv_base.specs.{ElementSpec, entry_spec, value_offset}
use Rattle.rkyv_table.specs.{item_found, len_at}
use Rattle.rkyv_collections.specs.Map.{map_bytes, map_pos}
use Rattle.rkyv_keys.specs.{Queried}
use Rattle.rkyv_collections.specs.declared.map.ArchivedHashMap.{ArchivedHashMap}

module _ {A B : Type 0} (w : Width) (k v : ElementSpec) (hash : A → ℕ) (fits : A → List ℕ → ℕ
    → Bool) (equals : List ℕ → ℕ → B → Type 0) where
  -- a lookup of the pair's key in the map at `p` finds a value that equals the pair's
  abbrev pub FindsPair : List ℕ → ℕ → A × B → Type 0
  FindsPair b p pair = IsSomeAnd
      (item_found w (entry_spec k v).size b p (hash pair.0) (fits pair.0 b)) (λ q.
      equals b (q + value_offset k v) pair.1)

  -- the map at `p` has as many pairs as `entries`, and each of these is found in it
  abbrev pub EntriesEqual : List ℕ → ℕ → List (A × B) → Type 0
  EntriesEqual b p entries = (len_at w b p ≡ length entries) × All (FindsPair b p) entries

  -- the map at `p` equals a std map
  abbrev pub StdMapEquals : {S : Type 0} → List ℕ → ℕ → HashMap A B S → Type 0
  StdMapEquals b p m = EntriesEqual b p m.entries

module _ {A B K V H W : Type 0} {ks : Specs K} {vs : Specs V} {wt : Words W}
    (m : ArchivedHashMap K V H W ks vs wt) (q : Queried A) (equals : List ℕ → ℕ → B → Type 0) where
  -- a lookup of the pair's key in the map finds a value that equals the pair's
  abbrev pub FindsPairIn : A × B → Type 0
  FindsPairIn pair = FindsPair wt.word ks.spec vs.spec q.hash q.fits equals (map_bytes m)
      (map_pos m) pair

  -- the map equals a std map
  abbrev pub StdMapEqualsIn : {S : Type 0} → HashMap A B S → Type 0
  StdMapEqualsIn other = StdMapEquals wt.word ks.spec vs.spec q.hash q.fits equals (map_bytes m)
      (map_pos m) other
