-- Walks over the items of a map, from a bucket on.
use Rattle.std.specs.Prelude.{◌≡◌, ℕ, ◌+◌, List, [], ◌∷◌, MatchOption, Option, drop, length}
use Rattle.std.specs.Prelude.{take}
use Rattle.rkyv_base.specs.{entry_spec, value_pos}
use Rattle.rkyv_table.specs.{cap_at, full_from, item_at, table_controls}
use Rattle.rkyv_collections.specs.{MapAt}
use Rattle.ffi_calls.specs.declared.any_value.AnyItem.{AnyItem}
use Rattle.ffi_calls.specs.declared.any_value.AnyValue.{AnyValue}
use Rattle.ffi_calls.specs.declared.walk.BucketPos.{BucketPos}

-- the full buckets of the map from the bucket `from` on, ascending
abbrev pub buckets_from : MapAt → ℕ → List ℕ
buckets_from m from =
    full_from (table_controls m.word m.bytes m.pos) (cap_at m.word m.bytes m.pos) from

-- the position of the pair in a bucket
abbrev pub bucket_pair_pos : MapAt → ℕ → ℕ
bucket_pair_pos m bucket = item_at m.word (entry_spec m.key m.value).size m.bytes m.pos bucket

-- the first full bucket from `from` on, and the position of its pair, or `None` without one
abbrev pub IsNextBucket : MapAt → ℕ → Option BucketPos → Type 0
IsNextBucket m from result = MatchOption result (buckets_from m from ≡ [])
    (λ (item : BucketPos). (buckets_from m from ≡ item.bucket ∷ buckets_from m (item.bucket + 1))
    × (item.pos ≡ bucket_pair_pos m item.bucket))

module _ (m : MapAt) (key value : List ℕ → ℕ → AnyValue → Type 0) where
  -- `item` is the bucket's item, and its `next` is behind the bucket. `key` and `value`: the
  -- stored key and the stored value at a position
  abbrev pub IsItemIn : ℕ → AnyItem → Type 0
  IsItemIn bucket item =
      (item.next ≡ bucket + 1) × key m.bytes (bucket_pair_pos m bucket) item.key
      × value m.bytes (value_pos m.key m.value (bucket_pair_pos m bucket)) item.value

  -- `result` is the item of the first full bucket from `from` on, or `None` without one
  abbrev pub FindsNextItem : ℕ → Option AnyItem → Type 0
  FindsNextItem from result = MatchOption result (buckets_from m from ≡ [])
      (λ (item : AnyItem). (bucket : ℕ)
      × (buckets_from m from ≡ bucket ∷ buckets_from m (bucket + 1)) × IsItemIn bucket item)

  -- each item is the item of the bucket at its index
  abbrev pub AreItemsIn : List ℕ → List AnyItem → Type 0
  AreItemsIn [] items = items ≡ []
  AreItemsIn (bucket ∷ buckets) [] = ⊥
  AreItemsIn (bucket ∷ buckets) (item ∷ items) = IsItemIn bucket item × AreItemsIn buckets items

  -- `after` begins with the items of the first full buckets from `from` on, at most as many as
  -- `before` has. Their number is `count`, and the rest is unchanged.
  abbrev pub StoresNextItems : ℕ → List AnyItem → ℕ → List AnyItem → Type 0
  StoresNextItems from before count after =
      let reached = take (length before) (buckets_from m from) in
      (count ≡ length reached) × AreItemsIn reached (take count after)
      × (drop count after ≡ drop count before)
