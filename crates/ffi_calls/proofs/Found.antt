-- The result of a lookup in a hash map or in an index map, by the lookup of the native key.
use Rattle.std.proofs.Common.{◌≡◌, ℕ, Bool, List, Ok, Option, false, true}
use Rattle.ffi_calls.specs.{FindsFirstIndexed, FindsFirstValue, FindsIndexed, FindsValue, IndexWidth, KeyTypes, LooksUpIn, ValueTypes, found_index, index_in, map_in, query_of_key, types_by, value_found}
use Rattle.ffi_calls.specs.declared.any_value.IndexedValue.{IndexedValue}

module _ {P I : Type 0} (width : IndexWidth I) (k : KeyTypes P) (v : ValueTypes P) (b : List ℕ) where
  -- the lookup of the native key of `key` in a hash map is the lookup of `key`
  pub found_in_map : (indexed : Bool) (key : P) (native : k.Native) (found : Option IndexedValue) → indexed ≡ false → k.is_value key → k.shows key native
      → FindsValue (v.any b) (value_found (map_in width.archive.word k.spec v.spec b) (k.calls native) (k.fits native b)) found
      → FindsFirstValue (map_in width.archive.word k.spec v.spec b) (query_of_key k.represents k.key_calls (k.eq native)) v.represents v.is_of found → LooksUpIn (types_by indexed width k v) b key (Ok found)
  found_in_map true key native found e value shows finds first = absurd cc
  found_in_map false key native found e value shows finds first = (native, value, shows, record { finds = finds; first = first })

  -- the lookup of the native key of `key` in an index map is the lookup of `key`
  pub found_in_index : (indexed : Bool) (key : P) (native : k.Native) (found : Option IndexedValue) → indexed ≡ true → k.is_value key → k.shows key native
      → FindsIndexed (index_in width.archive.word k.spec v.spec b) v.any (found_index (index_in width.archive.word k.spec v.spec b) (k.calls native) (k.fits native b)) found
      → FindsFirstIndexed (index_in width.archive.word k.spec v.spec b) (query_of_key k.represents k.key_calls (k.eq native)) v.represents v.is_of found → LooksUpIn (types_by indexed width k v) b key (Ok found)
  found_in_index false key native found e value shows finds first = absurd cc
  found_in_index true key native found e value shows finds first = (native, value, shows, record { finds = finds; first = first })
