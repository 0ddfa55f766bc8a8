-- Lookups in an index map that represents a list of pairs, in terms of only the list.
use Rattle.rkyv_base.specs.declared.element.HasSpec.{Ghosts as Specs}
use Rattle.rkyv_base.specs.declared.width.Word.{Ghosts as Words}
use Rattle.std.specs.Prelude.{◌≡◌, ℕ, ◌<◌, Bool, true, false, List, None, Option, Some, slice_get}
use Rattle.std.specs.List.{find}
use Rattle.rkyv_base.specs.{ElementSpec, PairRepresents, ValidAt}
use Rattle.rkyv_keys.specs.{NativePairs}
use Rattle.rkyv_index.specs.Map.{IsWritten, fits_at, index_bytes, index_of, index_pos, key_pos}
use Rattle.rkyv_index.specs.Map.{pair_indices}
use Rattle.rkyv_index.specs.Map.IndexFormat.{IndexRepresents}
use Rattle.rkyv_index.specs.declared.map.ArchivedIndexMap.{ArchivedIndexMap}

-- a valid key fits if and only if `accept` accepts the value that it represents
abbrev pub AgreesOnKeys : {A : Type 0} → ElementSpec → (List ℕ → ℕ → A → Type 0) → List ℕ
    → (List ℕ → ℕ → Bool) → (A → Bool) → Type 0
AgreesOnKeys {A} k key b fits accept = (a : A) (q : ℕ) → ValidAt k b q → key b q a
    → fits b q ≡ accept a

-- the index is the index of the first pair with an accepted key, or no pair has one
abbrev pub IsFirst : {A B : Type 0} → (A → Bool) → List (A × B) → Option ℕ → Type 0
IsFirst {A} {B} accept pairs None =
    (i : ℕ) (pair : A × B) → slice_get pairs i ≡ Some pair → accept pair.0 ≡ false
IsFirst {A} {B} accept pairs (Some n) =
    ((pair : A × B) × (slice_get pairs n ≡ Some pair) × (accept pair.0 ≡ true))
    × ((i : ℕ) (pair : A × B) → i < n → slice_get pairs i ≡ Some pair → accept pair.0 ≡ false)

module _ {A B K V H W : Type 0} {ks : Specs K} {vs : Specs V} {wt : Words W}
    (native : NativePairs A B) (m : ArchivedIndexMap K V H W ks vs wt) where
  -- The index map was written from the list. `first`: the index of a lookup's clause `first` is
  -- the index of the first pair with an accepted key. `each`: each pair is at its index
  pub record FindsListed (fits : List ℕ → ℕ → Bool) (accept : A → Bool) (pairs : List (A × B)) :
      Type 0 where
    pub homes : List ℕ
    pub written : IsWritten (index_of m) native.key_hash homes
    pub first : IsFirst accept pairs (find (fits_at (index_of m) fits) (pair_indices (index_of m)))
    pub each : (i : ℕ) (pair : A × B) → slice_get pairs i ≡ Some pair
        → PairRepresents ks.spec vs.spec native.key native.value (index_bytes m) (key_pos m i) pair

-- In an index map that represents a list of pairs, a lookup finds the index of the first pair
-- with an accepted key. `wt`: word of the archive, `native`: what represents the pairs
abbrev pub LookupsFindListed : {A B K V W : Type 0} → (H : Type 0) → Words W → Specs K → Specs V
    → NativePairs A B → Type 0
LookupsFindListed {A} {B} {K} {V} {W} H wt ks vs native =
    (m : ArchivedIndexMap K V H W ks vs wt) (fits : List ℕ → ℕ → Bool) (accept : A → Bool)
    (factor : ℕ × ℕ) (pairs : List (A × B))
    → AgreesOnKeys ks.spec native.key (index_bytes m) fits accept
    → IndexRepresents wt.word ks.spec vs.spec native.key native.value native.key_hash factor
    (index_bytes m) (index_pos m) pairs
    → FindsListed native m fits accept pairs
