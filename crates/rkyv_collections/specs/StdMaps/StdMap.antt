-- Std maps: the archived maps that represent them, and their format.
use denote.Ref.{Bor}
use Rattle.std.specs.Prelude.{◌≡◌, ℕ, ◌<◌, ◌⊎◌, Bool, List, [], ◌∷◌, ◌++◌, MatchResult, None}
use Rattle.std.specs.Prelude.{Result, Some}
use Rattle.std.specs.HashMap.{HashMap, IsUnique, Updates, hasher_of, keys}
use Rattle.std.specs.HashSet.{HashSet}
use Rattle.std.specs.Int.{Width}
use Rattle.std.specs.List.{AllZip, IsDistinct, find}
use Rattle.std.specs.Map.{keys_of, lookup, update_all}
use Rattle.rkyv_base.specs.{AtView, ElementSpec, Format, PairRepresents, entry_spec}
use Rattle.rkyv_base.specs.declared.errors.ReadError.{ReadError}
use Rattle.rkyv_base.specs.declared.errors.ReadError.TheVariants.{Memory}
use Rattle.rkyv_base.specs.declared.view.View.{View}
use Rattle.rkyv_keys.specs.{DeserializeErrors, DeserializeMembers, entry_deserialize_fails}
use Rattle.rkyv_table.specs.{item_positions, len_at}
use Rattle.rkyv_collections.specs.declared.std_maps.hashed.Hashed.{Hashed}

-- std's map or set inside the wrapper
abbrev pub inner : {M H : Type 0} → Hashed M H → M
inner hashed = hashed.map

-- the entries of the wrapped std map
abbrev pub inner_entries : {A B S H : Type 0} → Hashed (HashMap A B S) H → List (A × B)
inner_entries hashed = hashed.map.entries

-- the keys of the wrapped std set
abbrev pub inner_keys : {A S H : Type 0} → Hashed (HashSet A S) H → List A
inner_keys hashed = hashed.map.keys

-- the wrapper with another std map or set inside
abbrev pub with_inner : {M H : Type 0} → Hashed M H → M → Hashed M H
with_inner hashed map = record { map = map; hasher = hashed.hasher }

-- the wrapper of the std map or set that a wrapped reference refers to
abbrev pub referent : {M H : Type 0} → Hashed (Bor M) H → Hashed M H
referent hashed = record { map = hashed.map.now; hasher = hashed.hasher }

module _ {A B : Type 0} (k v : ElementSpec) (key : List ℕ → ℕ → A → Type 0) (value : List ℕ → ℕ → B
    → Type 0) where
  -- each position has the next of the pairs
  abbrev pub ArePairsAt : List ℕ → List ℕ → List (A × B) → Type 0
  ArePairsAt b positions pairs = AllZip (PairRepresents k v key value b) positions pairs

  -- The map at `p` represents entries of distinct keys. A lookup among
  -- them is the same as after inserting its pairs in bucket order. Of pairs with equal keys,
  -- the key of the first and the value of the last are kept
  pub record EntriesRepresent (w : Width) (equal : A → A → Bool) (b : List ℕ) (p : ℕ)
      (entries : List (A × B)) : Type 0 where
    pub pairs : List (A × B)
    pub read : ArePairsAt b (item_positions w (entry_spec k v).size b p) pairs
    pub inserted : ((q : A) → lookup (equal q) entries ≡ update_all equal (λ _. None) pairs q)
        × IsDistinct equal (keys_of entries)
    pub stored : (q : A) → find (equal q) (keys_of entries) ≡ find (equal q) (keys_of pairs)

  -- the map at `p` represents a std map: its pairs, inserted in bucket order
  abbrev pub StdMapRepresents : {S : Type 0} → Width → (A → A → Bool) → List ℕ → ℕ → HashMap A B S
      → Type 0
  StdMapRepresents w equal b p m = EntriesRepresent w equal b p m.entries

-- the format of entries with distinct keys: the format of a list of pairs
abbrev pub of_entries : {A B R : Type 0} → (A → A → Bool) → Format (List (A × B)) R
    → Format (List (A × B)) R
of_entries equal f = record {
  parts = λ entries p part r. IsDistinct equal (keys_of entries) × f.parts entries p part r;
  next = f.next;
  image = f.image;
  overflow = f.overflow;
}

-- `e`: error at one of the positions, after the values at all positions before it were read
pub record ReadInOrderFails {V : Type 0} (represents : List ℕ → ℕ → V → Type 0)
    (fails : DeserializeErrors) (b positions : List ℕ) (e : ReadError) : Type 0 where
  pub before : List ℕ
  pub pos : ℕ
  pub after : List ℕ
  pub in_order : positions ≡ before ++ pos ∷ after
  pub values : List V
  pub read : AllZip (represents b) before values
  pub error : fails b pos e

-- `e`: error of deserializing the map at `p`. It is `Memory`, unless the map is empty, or the error
-- of a key or a value, after all pairs before it, in bucket order, were deserialized
abbrev pub std_map_fails : {A B : Type 0} → Width → DeserializeMembers A → DeserializeMembers B
    → DeserializeErrors
std_map_fails w k v b p e =
    ((e ≡ Memory) × (0 < len_at w b p))
    ⊎ ReadInOrderFails (PairRepresents k.spec v.spec k.represents v.represents)
    (entry_deserialize_fails k v) b
    (item_positions w (entry_spec k.spec v.spec).size b p) e

-- `result`: std map that the view represents, with the hash state `state`, or an error
abbrev pub ReadsStdMap : {A B S T : Type 0} → (List ℕ → ℕ → HashMap A B S → Type 0)
    → DeserializeErrors → View T → S → Result (HashMap A B S) ReadError → Type 0
ReadsStdMap represents deserialize_fails view state result = MatchResult result
    (λ m. AtView represents view m × (hasher_of m ≡ state)) (AtView deserialize_fails view)

-- the keys `after` are those `before` and `a`: a lookup finds the same key in both.
-- If a key before equals `a`, that key is kept
abbrev pub AddsKey : {A : Type 0} → (A → A → Bool) → List A → List A → A → Type 0
AddsKey equal before after a =
    (q : _) → find (equal q) after ≡ find (equal q) (before ++ a ∷ [])

-- a pair with the property was inserted
abbrev pub InsertsPair : {A B S : Type 0} → (A → A → Bool) → (A × B → Type 0) → HashMap A B S
    → HashMap A B S → Type 0
InsertsPair {A} {B} equal P m n =
    (pair : A × B) × P pair × Updates equal m n pair.0 (Some pair.1)
    × AddsKey equal (keys m) (keys n) pair.0 × IsUnique equal n × (hasher_of n ≡ hasher_of m)

-- `e`: error of inserting a pair. Memory could not be allocated, or the pair has the error
abbrev pub insert_pair_fails : {A B : Type 0} → DeserializeMembers A → DeserializeMembers B
    → DeserializeErrors
insert_pair_fails k v b q e = (e ≡ Memory) ⊎ entry_deserialize_fails k v b q e

-- `result`: the pair at the view was inserted into the first of the maps, which yields the second,
-- or an error of inserting it
abbrev pub InsertsRead : {A B S T X : Type 0} → (A → A → Bool) → (List ℕ → ℕ → A × B → Type 0)
    → DeserializeErrors → View T → HashMap A B S × HashMap A B S → Result X ReadError → Type 0
InsertsRead equal represents errors view maps result = MatchResult result
    (λ _. InsertsPair equal (AtView represents view) maps.0 maps.1) (AtView errors view)
