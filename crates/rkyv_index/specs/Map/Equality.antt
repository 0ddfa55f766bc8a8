-- Equality of index maps, and the keys that a lookup of their own doesn't find.
use Rattle.rkyv_base.specs.declared.element.HasSpec.{Ghosts as Specs}
use Rattle.rkyv_base.specs.declared.width.Word.{Ghosts as Words}
use Rattle.std.specs.Prelude.{◌≡◌, ℕ, List, Bool, Option, ◌&&◌, ◌==◌, not, length, filter}
use Rattle.std.specs.Prelude.{◌<◌, ◌≤◌, MatchOption}
use Rattle.std.specs.Int.{Width}
use Rattle.std.specs.List.{find, list_all, sum_by}
use Rattle.std.specs.Option.{is_some}
use Rattle.rkyv_base.specs.{ElementSpec, entry_spec}
use Rattle.rkyv_keys.specs.{ArchivedKeys, Comparison, entry_same}
use Rattle.rkyv_table.specs.{count_after, is_found_at, len_at}
use Rattle.rkyv_index.specs.Map.{Index, IsWritten, index_bytes, index_found, index_pos}
use Rattle.rkyv_index.specs.Map.{index_strides, key_at, pair_indices}
use Rattle.rkyv_index.specs.Map.IndexLayout.{indices_of, pair_pos}
use Rattle.rkyv_index.specs.declared.map.ArchivedIndexMap.{ArchivedIndexMap}

module _ (w : Width) (s : ElementSpec) (same : Comparison) where
  -- the entries at index `i` of both maps are the same
  abbrev pub same_at : List ℕ → ℕ → List ℕ → ℕ → ℕ → Bool
  same_at b p c r i = same b (pair_pos w s.size b p i) c (pair_pos w s.size c r i)

  -- both maps have the same length, and the same entries in order
  abbrev pub index_equal : Comparison
  index_equal b p c r = (len_at w b p == len_at w c r) && list_all (same_at b p c r)
      (indices_of (len_at w b p))

-- Two index maps in bytes have the same length, and the same pairs in order.
-- `same_key`, `same_value`: comparisons of keys and of values
abbrev pub index_map_equal : Width → ElementSpec → ElementSpec → Comparison → Comparison
    → Comparison
index_map_equal w k v same_key same_value =
    index_equal w (entry_spec k v) (entry_same k v same_key same_value)

module _ {K V H W : Type 0} {ks : Specs K} {vs : Specs V} {wt : Words W} where
  -- the index maps `m` and `n` that are read have the same length, and the same pairs in order
  abbrev pub index_maps_equal : Comparison → Comparison → ArchivedIndexMap K V H W ks vs wt
      → ArchivedIndexMap K V H W ks vs wt → Bool
  index_maps_equal same_key same_value m n =
      index_map_equal wt.word ks.spec vs.spec same_key same_value (index_bytes m) (index_pos m)
      (index_bytes n) (index_pos n)

module _ {K : Type 0} (m : Index K) (keys : ArchivedKeys) where
  -- the keys at the indices `i` and `j` are the same
  abbrev pub same_keys : ℕ → ℕ → Bool
  same_keys i j = keys.same m.bytes (key_at m i) m.bytes (key_at m j)

  -- the index that a lookup of the key at index `i` finds
  abbrev pub own_found : ℕ → Option ℕ
  own_found i = index_found m.word m.bytes m.pos (keys.hash m.bytes (key_at m i)) (same_keys i)

  -- a lookup of the key at index `i` finds another index, or none
  abbrev pub is_misplaced : ℕ → Bool
  is_misplaced i = not (is_found_at i (own_found i))

  -- the number of misplaced keys
  abbrev pub index_misplaced : ℕ
  index_misplaced = length (filter is_misplaced (pair_indices m))

  -- the number of strides that a lookup of the key at index `i` reads
  abbrev pub own_strides : ℕ → ℕ
  own_strides i = index_strides m.word m.bytes m.pos (keys.hash m.bytes (key_at m i)) (same_keys i)

  -- the number of strides that the lookups of all keys read
  abbrev pub keys_strides : ℕ
  keys_strides = sum_by own_strides (pair_indices m)

  -- `result`: number of misplaced keys, or `None` if the lookups of all keys read more
  -- than `limit` strides
  abbrev pub CountsUpTo : ℕ → Option ℕ → Type 0
  CountsUpTo limit result = MatchOption result (limit < keys_strides)
      (λ n. (keys_strides ≤ limit) × (n ≡ index_misplaced))

  -- the strides of the lookups of all keys are counted, or a part of them if `result` is `None`
  abbrev pub CountsAllStrides : ℕ → ℕ → Option ℕ → Type 0
  CountsAllStrides before after result =
      MatchOption result (after ≤ count_after before keys_strides)
      (λ n. after ≡ count_after before keys_strides)

  -- the key at index `i` is the same as an earlier key
  abbrev pub is_repeated : ℕ → Bool
  is_repeated i = is_some (find (same_keys i) (indices_of i))

  -- the number of keys that are the same as an earlier key
  abbrev pub index_repeated : ℕ
  index_repeated = length (filter is_repeated (pair_indices m))

  -- `result`: in a written map, `true` if and only if the key at index `i` is a repeated one
  abbrev pub ReturnsRepeated : ℕ → Bool → Type 0
  ReturnsRepeated i result = (homes : List ℕ) → IsWritten m keys.hash homes → result ≡ is_repeated i

  -- `result`: in a written map, the number of repeated keys
  abbrev pub CountsRepeated : ℕ → Type 0
  CountsRepeated result =
      (homes : List ℕ) → IsWritten m keys.hash homes → result ≡ index_repeated
