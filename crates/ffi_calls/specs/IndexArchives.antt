-- The archives of index maps: validity, lookups, and items by their index.
use Rattle.rkyv_base.specs.declared.element.HasSpec.{Ghosts as Specs}
use Rattle.rkyv_base.specs.declared.width.Word.{Ghosts as Words}
use Rattle.std.specs.Prelude.{◌≡◌, ℕ, ◌+◌, ◌-◌, ◌<◌, ◌≤◌, Bool, List, MatchOption, None, Option}
use Rattle.std.specs.Prelude.{Some, drop, length, min, slice_get}
use Rattle.std.specs.Int.{Width}
use Rattle.rkyv_scan.specs.{HasherCall}
use Rattle.rkyv_base.specs.{ElementSpec, IsValidArchive, entry_spec, value_pos}
use Rattle.rkyv_table.specs.{len_at}
use Rattle.rkyv_collections.specs.{MapAt}
use Rattle.rkyv_index.specs.{index_bytes, index_found, index_pos, index_spec, pair_pos}
use Rattle.rkyv_index.specs.declared.map.ArchivedIndexMap.{ArchivedIndexMap}
use Rattle.ffi_calls.specs.Archives.{hash_by}
use Rattle.ffi_calls.specs.declared.any_value.AnyItem.{AnyItem}
use Rattle.ffi_calls.specs.declared.any_value.AnyValue.{AnyValue}
use Rattle.ffi_calls.specs.declared.any_value.IndexedValue.{IndexedValue}

-- the spec of the header of an index map with keys of spec `k` and values of spec `v`
abbrev pub index_map : Width → ElementSpec → ElementSpec → ElementSpec
index_map w k v = index_spec w (entry_spec k v)

-- `b` is the valid archive of an index map with keys of spec `k` and values of spec `v`
abbrev pub IsIndexArchive : Width → ℕ → ElementSpec → ElementSpec → List ℕ → Type 0
IsIndexArchive w limit k v b = IsValidArchive limit (index_map w k v) b

-- the position of the header of an index map at the end of `b`
abbrev pub index_root : Width → ElementSpec → ElementSpec → List ℕ → ℕ
index_root w k v b = length b - (index_map w k v).size

-- the index map at the end of the archive `b`
abbrev pub index_in : Width → ElementSpec → ElementSpec → List ℕ → MapAt
index_in w k v b =
    record { word = w; key = k; value = v; bytes = b; pos = index_root w k v b }

-- the index map `m`, by its bytes and its position
abbrev pub index_at : {K V H W : Type 0} {ks : Specs K} {vs : Specs V} {wt : Words W}
    → ArchivedIndexMap K V H W ks vs wt → MapAt
index_at {ks = ks} {vs} {wt} m = record {
  word = wt.word;
  key = ks.spec;
  value = vs.spec;
  bytes = index_bytes m;
  pos = index_pos m;
}

-- the number of pairs of an index map
abbrev pub pair_count : MapAt → ℕ
pair_count m = len_at m.word m.bytes m.pos

-- the position of the pair at index `i`
abbrev pub pair_pos_at : MapAt → ℕ → ℕ
pair_pos_at m i = pair_pos m.word (entry_spec m.key m.value).size m.bytes m.pos i

-- the position of the value of the pair at index `i`
abbrev pub value_pos_at : MapAt → ℕ → ℕ
value_pos_at m i = value_pos m.key m.value (pair_pos_at m i)

-- the index that a lookup finds. `calls`: hasher calls of the key, `fits`: test of the key
-- at a position
abbrev pub found_index : MapAt → List HasherCall → (ℕ → Bool) → Option ℕ
found_index m calls fits =
    index_found m.word m.bytes m.pos (hash_by calls) (λ i. fits (pair_pos_at m i))

-- `result` has the index `at` and the value of the pair at it, or both are `None`.
-- `value`: the stored value at a position
abbrev pub FindsIndexed : MapAt → (List ℕ → ℕ → AnyValue → Type 0) → Option ℕ
    → Option IndexedValue → Type 0
FindsIndexed m value at result = MatchOption result (at ≡ None) (λ found.
    (at ≡ Some found.index) × value m.bytes (value_pos_at m found.index) found.value)

module _ (m : MapAt) (key value : List ℕ → ℕ → AnyValue → Type 0) where
  -- `item` is that at index `i`, and its `next` is the next index. `key` and `value`: the stored
  -- key and the stored value at a position
  abbrev pub IsIndexItem : ℕ → AnyItem → Type 0
  IsIndexItem i item = (item.next ≡ i + 1) × key m.bytes (pair_pos_at m i) item.key
      × value m.bytes (value_pos_at m i) item.value

  -- `after` begins with the items from index `from` on, at most as many as `before` has.
  -- Their number is `count`, and the rest is unchanged.
  pub record StoresItemsFrom (from : ℕ) (before : List AnyItem) (count : ℕ) (after : List AnyItem)
      : Type 0 where
    pub number : count ≡ min (length before) (pair_count m - from)
    pub items : (i : ℕ) (item : AnyItem) → i < count → slice_get after i ≡ Some item
        → IsIndexItem (from + i) item
    pub rest : drop count after ≡ drop count before

-- `result` is the item at index `i`, or `None` if the map has no index `i`.
-- `IsItem i item`: `item` is the item at index `i`
abbrev pub IsItemAtIndex : MapAt → (ℕ → AnyItem → Type 0) → ℕ → Option AnyItem → Type 0
IsItemAtIndex m IsItem i result =
    MatchOption result (pair_count m ≤ i) (λ item. (i < pair_count m) × IsItem i item)
