-- The misplaced keys of collections.
use Rattle.std.specs.Prelude.{◌≡◌, ℕ, ◌<◌, ◌≤◌, ◌⊎◌, Bool, true, false, IfSome, List}
use Rattle.std.specs.Prelude.{MatchOption, Option}
use Rattle.std.specs.Int.{Width}
use Rattle.rkyv_scan.specs.{HasherCall}
use Rattle.rkyv_keys.specs.{Comparison}
use Rattle.rkyv_collections.specs.{MapAt, map_misplaced, map_strides}
use Rattle.rkyv_index.specs.{Index, index_misplaced, keys_strides}
use Rattle.ffi_calls.specs.Archives.{IsHeaderOf, word_of}
use Rattle.ffi_calls.specs.Collections.{IsArchiveOfTypes, collection_in, collection_at, types_in}
use Rattle.ffi_calls.specs.Lists.{fx_hash_at}
use Rattle.ffi_calls.specs.TypesOf.{Types, key_type_of}
use Rattle.ffi_calls.specs.declared.any_value.AnyValue.{AnyValue}
use Rattle.ffi_calls.specs.declared.collection.Collection.{Collection}
use Rattle.ffi_calls.specs.declared.collection.KeyType.{KeyType}
use Rattle.ffi_calls.specs.declared.collection.Handle.{Handle}
use Rattle.ffi_calls.specs.declared.misplaced.Counting.{Counting}

-- the comparison of keys of the type in an archive of the word
abbrev pub key_type_same : Width → KeyType → Comparison
key_type_same w of = (key_type_of w of).same

-- the hasher calls of the key at a position
abbrev pub key_type_calls : Width → KeyType → List ℕ → ℕ → List HasherCall
key_type_calls w of = (key_type_of w of).key_calls

-- the index map `m`, for lookups of its own keys
abbrev pub index_with_keys : MapAt → Index (Unit {0})
index_with_keys m = record {
  word = m.word;
  key = m.key;
  value = m.value;
  bytes = m.bytes;
  pos = m.pos;
  is_key = λ i view. Unit {0};
}

module _ (m : MapAt) (same : Comparison) (calls : List ℕ → ℕ → List HasherCall) where
  -- the number of keys of the hash map `m`, or of the index map if the flag is `true`, that
  -- a lookup of the key itself doesn't find
  abbrev pub misplaced_in : Bool → ℕ
  misplaced_in false =
      map_misplaced m.word m.key m.value (fx_hash_at calls) same m.bytes m.pos
  misplaced_in true =
      index_misplaced (index_with_keys m) (record { hash = fx_hash_at calls; same = same })

  -- the number of strides that the lookups of all keys read
  abbrev pub strides_in : Bool → ℕ
  strides_in false = map_strides m.word m.key m.value (fx_hash_at calls) same m.bytes m.pos
  strides_in true =
      keys_strides (index_with_keys m) (record { hash = fx_hash_at calls; same = same })

  -- `result`: number of misplaced keys, or `None` if the lookups of all keys read more
  -- than `limit` strides
  abbrev pub CountsIn : Bool → ℕ → Option ℕ → Type 0
  CountsIn indexed limit result =
      MatchOption result (limit < strides_in indexed)
      (λ n. (strides_in indexed ≤ limit) × (n ≡ misplaced_in indexed))

-- the condition of a count: the archive is valid, and the header is its own
pub record CanCount (op : Counting) (before : List ℕ) (t : Types AnyValue) : Type 0 where
  pub archive : IsArchiveOfTypes t op.archive.now
  pub header : IsHeaderOf (types_in t op.archive.now) op.header.now

-- the result of a count
abbrev pub CountsTypes : Counting → List ℕ → Types AnyValue → Option ℕ → List ℕ → Type 0
CountsTypes op before t result after =
    CountsIn (types_in t op.archive.now) t.key.same t.key.key_calls t.indexed op.limit result

-- the number of misplaced keys of the collection at the root of an archive
abbrev pub misplaced_of : Collection → List ℕ → ℕ
misplaced_of c b = let w = word_of c.wide in
    misplaced_in (collection_in c b) (key_type_same w c.key) (key_type_calls w c.key) c.indexed

-- the number of strides that the lookups of all its keys read
abbrev pub strides_of : Collection → List ℕ → ℕ
strides_of c b = let w = word_of c.wide in
    strides_in (collection_in c b) (key_type_same w c.key) (key_type_calls w c.key) c.indexed

-- The status is 0 and `after` is the number `misplaced`. The status is 15 and `after` is `before`
-- if the number of strides is greater than `limit`
abbrev pub StoresMisplaced : ℕ → ℕ → ℕ → ℕ → ℕ → ℕ → Type 0
StoresMisplaced misplaced strides limit before status after =
    ((strides ≤ limit) × (status ≡ 0) × (after ≡ misplaced))
    ⊎ ((limit < strides) × (status ≡ 15) × (after ≡ before))

-- the number of misplaced keys of the collection of the handle at the root of `b` is stored,
-- unless the lookups of all its keys read more than `limit` strides
abbrev pub CountsMisplaced : Handle → List ℕ → ℕ → ℕ → ℕ → ℕ → Type 0
CountsMisplaced handle b limit before status after = let c = collection_at handle in
    StoresMisplaced (misplaced_of c b) (strides_of c b) limit before status after
