-- Lookups of keys in collections of any types.
use Rattle.std.specs.Prelude.{◌≡◌, ℕ, ◌⊎◌, Bool, true, false, List, MatchResult, None, Option}
use Rattle.std.specs.Prelude.{Result, Some, length, slice_get}
use Rattle.std.specs.Int.{Width}
use Rattle.std.specs.List.{find}
use Rattle.std.specs.Option.{is_some}
use Rattle.rkyv_scan.specs.{HasherCall}
use Rattle.rkyv_base.specs.{ElementSpec, unit_represents, unit_spec}
use Rattle.rkyv_collections.specs.{SetRepresents, map_root}
use Rattle.ffi_calls.specs.AnyValues.{IsAny}
use Rattle.ffi_calls.specs.Archives.{FindsValue, IsHeaderOf, map_in, value_found}
use Rattle.ffi_calls.specs.Collections.{IsArchiveOfTypes, types_in}
use Rattle.ffi_calls.specs.IndexArchives.{FindsIndexed, found_index}
use Rattle.ffi_calls.specs.IndexLists.{FindsFirstIndexed}
use Rattle.ffi_calls.specs.Lists.{FindsFirstValue, fx_hash_at, query_of_key}
use Rattle.ffi_calls.specs.TypesOf.{Types}
use Rattle.ffi_calls.specs.declared.any_value.AnyValue.{AnyValue}
use Rattle.ffi_calls.specs.declared.any_value.IndexedValue.{IndexedValue}
use Rattle.ffi_calls.specs.declared.any_value.LookedUp.{LookedUp}
use Rattle.ffi_calls.specs.declared.lookup.Lookups.{Lookups}

-- the condition of lookups: the archive is valid, and the header is its own
pub record CanLookUp {P : Type 0} (op : Lookups) (before : List LookedUp) (t : Types P)
    : Type 0 where
  pub archive : IsArchiveOfTypes t op.archive.now
  pub header : IsHeaderOf (types_in t op.archive.now) op.header.now

module _ {P : Type 0} (t : Types P) (b : List ℕ) where
  -- in a hash map, `result` has the value that the lookup of `key` finds and the index 0, or is
  -- `None` without one: by the bytes, and in terms of each list that the map represents
  pub record FindsInMap (key : t.key.Native) (result : Option IndexedValue) : Type 0 where
    pub finds : FindsValue (t.value.any b)
        (value_found (types_in t b) (t.key.calls key) (t.key.fits key b)) result
    pub first : FindsFirstValue (types_in t b)
        (query_of_key t.key.represents t.key.key_calls (t.key.eq key)) t.value.represents
        t.value.is_of result

  -- in an index map, `result` has the value and the index of the pair that the lookup of `key`
  -- finds, or is `None` without one: by the bytes, and in terms of each list that the map
  -- represents
  pub record FindsInIndex (key : t.key.Native) (result : Option IndexedValue) : Type 0 where
    pub finds : FindsIndexed (types_in t b) t.value.any
        (found_index (types_in t b) (t.key.calls key) (t.key.fits key b)) result
    pub first : FindsFirstIndexed (types_in t b)
        (query_of_key t.key.represents t.key.key_calls (t.key.eq key)) t.value.represents
        t.value.is_of result

  -- `result` is of the lookup of `key` in an index map if the flag is `true`, and in a hash
  -- map if it is `false`
  abbrev pub FindsKey : Bool → t.key.Native → Option IndexedValue → Type 0
  FindsKey false key result = FindsInMap key result
  FindsKey true key result = FindsInIndex key result

  -- `key` is a native key in the form of calls, and the lookup of the native key finds `result`
  abbrev pub FindsShown : P → Option IndexedValue → Type 0
  FindsShown key result = (native : t.key.Native) × t.key.is_value key × t.key.shows key native
      × FindsKey t.indexed native result

  -- the result of a lookup of `key`: the found value and its index, or the status if no native key
  -- has the form
  abbrev pub LooksUpIn : P → Result (Option IndexedValue) ℕ → Type 0
  LooksUpIn key result = MatchResult result (FindsShown key) (t.key.is_none key)

  -- The status is 0 and the lookup of `key` finds `after`. Otherwise `after` is `before`: the
  -- status is 1 and the lookup finds none, or it is of a key that no native key has as its
  -- form.
  abbrev pub ReturnsIn : P → IndexedValue → ℕ → IndexedValue → Type 0
  ReturnsIn key before status after = ((status ≡ 0) × FindsShown key (Some after))
      ⊎ ((after ≡ before) × (((status ≡ 1) × FindsShown key None) ⊎ t.key.is_none key status))

module _ (t : Types AnyValue) (b : List ℕ) where
  -- `new` is the lookup `old` with its result, in place of the key that is its value
  abbrev pub IsLookedUp : LookedUp → LookedUp → Type 0
  IsLookedUp old new = ReturnsIn t b old.found.value old.found new.status new.found

  -- each lookup of `after` is the lookup of `before` with its result
  pub record StoresLookups (before after : List LookedUp) : Type 0 where
    pub number : length after ≡ length before
    pub each : (i : ℕ) (old new : LookedUp) → slice_get before i ≡ Some old
        → slice_get after i ≡ Some new → IsLookedUp old new

-- the results of lookups
abbrev pub LooksUp : Lookups → List LookedUp → Types AnyValue → Unit {0} → List LookedUp → Type 0
LooksUp op before t result after = StoresLookups t op.archive.now before after

-- a lookup in a set finds a key if and only if a key of its list is accepted.
-- `represents` and `key_calls`: what represents a key, and its hasher calls at a position
abbrev pub SetLookupsFindListed : {A : Type 0} → Width → ElementSpec → (List ℕ → ℕ → A → Type 0)
    → (List ℕ → ℕ → List HasherCall) → Type 0
SetLookupsFindListed {A} w k represents key_calls =
    (accepts : A → Bool) (b : List ℕ) (result : Option IndexedValue)
    → FindsFirstValue (map_in w k unit_spec b) (query_of_key represents key_calls accepts)
    unit_represents IsAny result
    → (factor : ℕ × ℕ) (keys : List A)
    → SetRepresents w k represents (fx_hash_at key_calls) factor b (map_root w k unit_spec b) keys
    → is_some result ≡ is_some (find accepts keys)
