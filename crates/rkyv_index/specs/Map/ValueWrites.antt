-- An index map after a write of one value in place.
use Rattle.std.specs.Prelude.{◌≡◌, ◌≢◌, ℕ, ◌+◌, ◌*◌, ◌<◌, ◌^◌, List, Bool, Some, slice_get}
use Rattle.std.specs.Prelude.{slice_set}
use Rattle.std.specs.Int.{Width, byte_len}
use Rattle.rkyv_base.specs.{AgreeOn, ElementSpec, StaysValid, Viewable, entry_spec, value_pos}
use Rattle.rkyv_keys.specs.{NativePairs}
use Rattle.rkyv_table.specs.{RestsOnKey, SameValue, WritesValue, len_at}
use Rattle.rkyv_index.specs.Map.{fits_in, index_found}
use Rattle.rkyv_index.specs.Map.IndexFormat.{IndexRepresents, IndexWrittenAt}
use Rattle.rkyv_index.specs.Map.IndexLayout.{entries_pos, index_spec, pair_pos}

module _ (w : Width) (k v : ElementSpec) where
  -- the position of the pair at index `i` of the map at `p`
  abbrev pub pair_at : List ℕ → ℕ → ℕ → ℕ
  pair_at b p i = pair_pos w (entry_spec k v).size b p i

  -- The index map at `p` of `b` is kept in `c`, but for the value at index `i`.
  -- Its header, the bytes before its entries, all keys and all other entries are unchanged.
  pub record KeepsEntries (b c : List ℕ) (p i : ℕ) : Type 0 where
    pub is_valid : StaysValid (index_spec w (entry_spec k v)) b c p
    pub header : AgreeOn b c p (p + 4 * byte_len w)
    pub front : AgreeOn b c 0 (entries_pos w b p)
    pub keys : (j : ℕ) → j < len_at w b p → SameValue k b c (pair_at b p j)
    pub others : (j : ℕ) → j < len_at w b p → j ≢ i
        → SameValue (entry_spec k v) b c (pair_at b p j)

  -- each write of only the value at index `i` that keeps it valid keeps the index map
  abbrev pub KeptByWrites : List ℕ → ℕ → ℕ → Type 0
  KeptByWrites b p i = (c : List ℕ) → WritesValue k v b c (pair_at b p i) → KeepsEntries b c p i

-- index maps of a kind: their width, the specs of their keys and values, and the hashes of keys
-- by their bytes and position
pub record IndexKind : Type 1 where
  pub word : Width
  pub key : ElementSpec
  pub value : ElementSpec
  pub key_hash : List ℕ → ℕ → ℕ

-- the index maps of this width, of these keys and values
abbrev pub index_kind : Width → ElementSpec → ElementSpec → (List ℕ → ℕ → ℕ) → IndexKind
index_kind w k v key_hash = record { word = w; key = k; value = v; key_hash = key_hash }

-- The map of `c` is valid, with the same length, the pairs at the same positions and under
-- the same hashes. Each lookup whose test depends only on the key finds the same index.
-- A written index map is still one.
pub record KeepsIndexMap (m : IndexKind) (b c : List ℕ) (p i : ℕ) : Type 0 where
  pub entries : KeepsEntries m.word m.key m.value b c p i
  pub valid : Viewable (index_spec m.word (entry_spec m.key m.value)) c p
  pub len : len_at m.word c p ≡ len_at m.word b p
  pub positions : (j : ℕ) → pair_at m.word m.key m.value c p j ≡ pair_at m.word m.key m.value b p j
  pub hashes : (j : ℕ) → j < len_at m.word b p
      → m.key_hash c (pair_at m.word m.key m.value b p j)
      ≡ m.key_hash b (pair_at m.word m.key m.value b p j)
  pub lookups : (hash : ℕ) (fits : List ℕ → ℕ → Bool) → hash < 2 ^ 64 → RestsOnKey m.key fits
      → index_found m.word c p hash (fits_in m.word m.key m.value c p fits)
      ≡ index_found m.word b p hash (fits_in m.word m.key m.value b p fits)
  pub written : (homes : List ℕ)
      → IndexWrittenAt m.word (entry_spec m.key m.value).size m.key_hash b p homes
      → IndexWrittenAt m.word (entry_spec m.key m.value).size m.key_hash c p homes

module _ (w : Width) (k v : ElementSpec) where
  -- a write of one value in place keeps the index map
  abbrev pub ValueWritesKeepIndexMaps : (List ℕ → ℕ → ℕ) → Type 0
  ValueWritesKeepIndexMaps key_hash = (b c : List ℕ) (p i : ℕ)
      → Viewable (index_spec w (entry_spec k v)) b p → i < len_at w b p
      → WritesValue k v b c (pair_at w k v b p i)
      → KeepsIndexMap (index_kind w k v key_hash) b c p i

-- `writes b c q`: the bytes `c` are `b` after a write of the value of the pair at `q`
module _ (w : Width) (k v : ElementSpec) (writes : List ℕ → List ℕ → ℕ → Type 0) where
  -- after a write of one value, a query with this hash finds the same index. `fits`: its test
  abbrev pub WritesKeepLookups : ℕ → (List ℕ → ℕ → Bool) → Type 0
  WritesKeepLookups hash fits = (b c : List ℕ) (p i : ℕ)
      → Viewable (index_spec w (entry_spec k v)) b p → i < len_at w b p
      → writes b c (pair_at w k v b p i)
      → index_found w c p hash (fits_in w k v c p fits)
      ≡ index_found w b p hash (fits_in w k v b p fits)

  -- after a write of the value at index `n`, the index map represents the list with the new value
  abbrev pub WritesRepresent : {A B : Type 0} → NativePairs A B → Type 0
  WritesRepresent {A} {B} native = (b c : List ℕ) (p n : ℕ) (factor : ℕ × ℕ)
      (pairs : List (A × B)) (pair : A × B) (new : B)
      → Viewable (index_spec w (entry_spec k v)) b p
      → IndexRepresents w k v native.key native.value native.key_hash factor b p pairs
      → slice_get pairs n ≡ Some pair → writes b c (pair_at w k v b p n)
      → native.value c (value_pos k v (pair_at w k v b p n)) new
      → IndexRepresents w k v native.key native.value native.key_hash factor c p
      (slice_set pairs n (pair.0, new))

-- After a write of the value at index `i` of the index map at `p` of `b`, it represents the list
-- with the new value in `c`. `represents`: lists that index maps represent, by the load factor
abbrev pub SetsListed : {A N : Type 0} → (ℕ × ℕ → List ℕ → ℕ → List (A × N) → Type 0) → List ℕ
    → List ℕ → ℕ → ℕ → N → Type 0
SetsListed {A} {N} represents b c p i value =
    (factor : ℕ × ℕ) (pairs : List (A × N)) (pair : A × N) → represents factor b p pairs
    → slice_get pairs i ≡ Some pair → represents factor c p (slice_set pairs i (pair.0, value))
