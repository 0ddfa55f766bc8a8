-- Lists that are deserialized from index maps and index sets.
use Rattle.rkyv_base.specs.declared.element.HasSpec.{Ghosts as Specs}
use Rattle.rkyv_base.specs.declared.width.Word.{Ghosts as Words}
use Rattle.std.specs.Prelude.{◌≡◌, ℕ, ◌<◌, ◌⊎◌, ◌&&◌, List, Bool, true, Some, length, slice_get}
use Rattle.std.specs.Cmp.Lexicographic.{pointwise}
use Rattle.std.specs.Int.{Width}
use Rattle.rkyv_base.specs.{ElementSpec, Format, PairRepresents, Viewable, entry_spec, unit_spec}
use Rattle.rkyv_base.specs.declared.errors.ReadError.{ReadError}
use Rattle.rkyv_base.specs.declared.errors.ReadError.TheVariants.{Memory}
use Rattle.rkyv_keys.specs.{DeserializeErrors, DeserializeMembers, RoundTrip}
use Rattle.rkyv_keys.specs.{entry_deserialize_fails}
use Rattle.rkyv_table.specs.{len_at}
use Rattle.rkyv_index.specs.Map.{index_bytes, index_pos, key_pos}
use Rattle.rkyv_index.specs.Map.IndexFormat.{IndexRepresents}
use Rattle.rkyv_index.specs.Map.IndexLayout.{index_spec}
use Rattle.rkyv_index.specs.Set.IndexSet.{index_set_spec, set_bytes, set_pos}
use Rattle.rkyv_index.specs.Set.SetFormat.{IndexSetRepresents}
use Rattle.rkyv_index.specs.Map.ValueWrites.{pair_at}
use Rattle.rkyv_index.specs.declared.map.ArchivedIndexMap.{ArchivedIndexMap}
use Rattle.rkyv_index.specs.declared.set.ArchivedIndexSet.{ArchivedIndexSet}

module _ {A B : Type 0} (w : Width) (k v : ElementSpec) (key : List ℕ → ℕ → A → Type 0)
    (value : List ℕ → ℕ → B → Type 0) (b : List ℕ) (p : ℕ) where
  -- each of the first pairs, in order, is represented at its index, in the index map at `p`
  -- of `b`
  abbrev pub ArePairsAt : List (A × B) → Type 0
  ArePairsAt pairs = (i : ℕ) (pair : A × B) → slice_get pairs i ≡ Some pair
      → PairRepresents k v key value b (pair_at w k v b p i) pair

  -- the list has the pair at each index, in order
  abbrev pub HasPairsAt : List (A × B) → Type 0
  HasPairsAt pairs = (length pairs ≡ len_at w b p) × ArePairsAt pairs

module _ {K V H W A B : Type 0} {ks : Specs K} {vs : Specs V} {wt : Words W}
    (key : List ℕ → ℕ → A → Type 0) (value : List ℕ → ℕ → B → Type 0)
    (m : ArchivedIndexMap K V H W ks vs wt) where
  -- `pair`: represented by the entry at `index`
  abbrev pub IsPairRead : ℕ → A × B → Type 0
  IsPairRead index pair =
      PairRepresents ks.spec vs.spec key value (index_bytes m) (key_pos m index) pair

  -- each of the pairs is represented by the entry at its index
  abbrev pub ArePairsRead : List (A × B) → Type 0
  ArePairsRead pairs =
      ArePairsAt wt.word ks.spec vs.spec key value (index_bytes m) (index_pos m) pairs

  -- the list has as many pairs as the map, and each is represented by the entry at its index
  abbrev pub ReadsPairs : List (A × B) → Type 0
  ReadsPairs pairs =
      HasPairsAt wt.word ks.spec vs.spec key value (index_bytes m) (index_pos m) pairs

-- `e`: error of the pair at `index`
abbrev pub pair_deserialize_fails : {K V H W A B : Type 0} {ks : Specs K} {vs : Specs V}
    {wt : Words W} → DeserializeMembers A → DeserializeMembers B
    → ArchivedIndexMap K V H W ks vs wt → ℕ → ReadError → Type 0
pair_deserialize_fails k v m index e =
    entry_deserialize_fails k v (index_bytes m) (key_pos m index) e

module _ {A B : Type 0} (w : Width) (k : DeserializeMembers A) (v : DeserializeMembers B) where
  -- `e`: error of deserializing the pairs of the index map at `p` of `b`. It is `Memory`, unless
  -- there are none, or the error of a key or a value, after all pairs before it were deserialized
  abbrev pub pairs_deserialize_fails : DeserializeErrors
  pairs_deserialize_fails b p e =
      ((e ≡ Memory) × (0 < len_at w b p))
      ⊎ ((before : List (A × B)) × (length before < len_at w b p)
      × ArePairsAt w k.spec v.spec k.represents v.represents b p before
      × entry_deserialize_fails k v b
      (pair_at w k.spec v.spec b p (length before)) e)

module _ {A : Type 0} (w : Width) (k : ElementSpec) (key : List ℕ → ℕ → A → Type 0) (b : List ℕ)
    (p : ℕ) where
  -- each of the first items, in order, is represented at its index, in the index set at `p`
  -- of `b`
  abbrev pub AreItemsAt : List A → Type 0
  AreItemsAt items = (i : ℕ) (item : A) → slice_get items i ≡ Some item
      → key b (pair_at w k unit_spec b p i) item

  -- the list has the key at each index, in order
  abbrev pub HasItemsAt : List A → Type 0
  HasItemsAt items = (length items ≡ len_at w b p) × AreItemsAt items

module _ {K H W A : Type 0} {ks : Specs K} {wt : Words W} (key : List ℕ → ℕ → A → Type 0)
    (s : ArchivedIndexSet K H W ks wt) where
  -- each of the items is represented by the key at its index
  abbrev pub AreItemsRead : List A → Type 0
  AreItemsRead items = AreItemsAt wt.word ks.spec key (set_bytes s) (set_pos s) items

  -- the list has as many items as the set, and each is represented by the key at its index
  abbrev pub ReadsItems : List A → Type 0
  ReadsItems items = HasItemsAt wt.word ks.spec key (set_bytes s) (set_pos s) items

-- `e`: error of deserializing the keys of the index set at `p` of `b`. It is `Memory`, unless
-- there are none, or the error of a key, after all keys before it were deserialized
abbrev pub items_deserialize_fails : {A : Type 0} → Width → DeserializeMembers A → DeserializeErrors
items_deserialize_fails {A} w k b p e =
    ((e ≡ Memory) × (0 < len_at w b p))
    ⊎ ((before : List A) × (length before < len_at w b p)
    × AreItemsAt w k.spec k.represents b p before
    × k.deserialize_fails b (pair_at w k.spec unit_spec b p (length before)) e)

-- the round trip of a list of pairs. `limit`: greatest length of the archive
abbrev pub pairs_trip : {A B X R : Type 0} → ℕ → Width → DeserializeMembers A
    → DeserializeMembers B → Format X R → RoundTrip X R
pairs_trip limit w k v format = record {
  limit = limit;
  spec = index_spec w (entry_spec k.spec v.spec);
  format = format;
  deserialize_fails = pairs_deserialize_fails w k v;
}

-- the round trip of a list of keys. `limit`: greatest length of the archive
abbrev pub items_trip : {A X R : Type 0} → ℕ → Width → DeserializeMembers A → Format X R
    → RoundTrip X R
items_trip limit w k format = record {
  limit = limit;
  spec = index_set_spec w k.spec;
  format = format;
  deserialize_fails = items_deserialize_fails w k;
}

-- both parts are equal
abbrev pub pairs_equal : {A B : Type 0} → (A → A → Bool) → (B → B → Bool) → A × B → A × B → Bool
pairs_equal first second x y = first x.0 y.0 && second x.1 y.1

-- how values are read from an element: its spec, the values that it represents,
-- and their equality
pub record ReadsAs (A : Type 0) : Type 1 where
  pub spec : ElementSpec
  pub represents : List ℕ → ℕ → A → Type 0
  pub equal : A → A → Bool

-- values that are read from an element of this spec
abbrev pub reads_as : {A : Type 0} → ElementSpec → (List ℕ → ℕ → A → Type 0) → (A → A → Bool)
    → ReadsAs A
reads_as spec represents equal = record { spec = spec; represents = represents; equal = equal }

-- If an index map represents the list `listed`, a list `read` that is deserialized from it
-- is equal to `listed`.
abbrev pub PairsReadBackAreListed : {A B : Type 0} → Width → ReadsAs A → ReadsAs B
    → (List ℕ → ℕ → ℕ) → Type 0
PairsReadBackAreListed {A} {B} w k v hash =
    (b : List ℕ) (p : ℕ) (factor : ℕ × ℕ) (listed read : List (A × B))
    → Viewable (index_spec w (entry_spec k.spec v.spec)) b p
    → IndexRepresents w k.spec v.spec k.represents v.represents hash factor b p listed
    → HasPairsAt w k.spec v.spec k.represents v.represents b p read
    → pointwise (pairs_equal k.equal v.equal) listed read ≡ true

-- If an index set represents the list `listed`, a list `read` that is deserialized from it
-- is equal to `listed`.
abbrev pub ItemsReadBackAreListed : {A : Type 0} → Width → ElementSpec → (List ℕ → ℕ → A → Type 0)
    → (List ℕ → ℕ → ℕ) → (A → A → Bool) → Type 0
ItemsReadBackAreListed {A} w k key hash equal =
    (b : List ℕ) (p : ℕ) (factor : ℕ × ℕ) (listed read : List A)
    → Viewable (index_set_spec w k) b p
    → IndexSetRepresents w k key hash factor b p listed
    → HasItemsAt w k key b p read
    → pointwise equal listed read ≡ true
