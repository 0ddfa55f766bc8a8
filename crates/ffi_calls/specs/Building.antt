-- The items to be archived, and the results of their write as any collection.
use Rattle.std.specs.Prelude.{◌≡◌, ℕ, ◌⊎◌, All, Bool, true, false, List, MatchOption, MatchResult}
use Rattle.std.specs.Prelude.{Result, Some, map, slice_get, take}
use Rattle.std.specs.List.{AllZip}
use Rattle.std.specs.declared.vec.Vec.{Vec}
use Rattle.rkyv_scan.specs.{HasherCall}
use Rattle.rkyv_base.specs.{ElementSpec, Format, IsValidArchive, unit_format, unit_represents}
use Rattle.rkyv_base.specs.{unit_spec}
use Rattle.rkyv_base.specs.declared.errors.WriteError.{WriteError}
use Rattle.rkyv_base.specs.declared.writer.NoMemory.{NoMemory}
use Rattle.rkyv_keys.specs.{NativePairs, PairFormat, fx_format}
use Rattle.rkyv_collections.specs.{SetRepresents, map_root, set_spec}
use Rattle.ffi_calls.specs.Collections.{collection_of}
use Rattle.ffi_calls.specs.IndexItems.{IndexFails, IsIndexOf}
use Rattle.ffi_calls.specs.Lists.{ArchiveFails, ArchiveWidth, IsArchiveOf, fx_hash_at, fx_pairs}
use Rattle.ffi_calls.specs.Status.{write_status}
use Rattle.ffi_calls.specs.TypesOf.{KeyTypes, Types, ValueTypes, types_of}
use Rattle.ffi_calls.specs.declared.any_value.AnyPair.{AnyPair}
use Rattle.ffi_calls.specs.declared.any_value.AnyValue.{AnyValue}
use Rattle.ffi_calls.specs.declared.building.Building.{Building}
use Rattle.ffi_calls.specs.declared.building.Built.{Built}
use Rattle.ffi_calls.specs.declared.containers.Codes.{Codes}
use Rattle.ffi_calls.specs.declared.from_any.FromAny.{Ghosts as Taken}

-- `IsCause` applies to the first of `items` that doesn't fit; all items before it fit
abbrev pub FirstUnfit : {I : Type 0} → (I → Type 0) → (I → Type 0) → List I → Type 0
FirstUnfit {I} Fits IsCause items = (n : ℕ) × ((item : I)
    × (slice_get items n ≡ Some item) × All Fits (take n items) × IsCause item)

-- items and their pairs. `a`: native type of the keys, `b`: native type of the values
module _ {A B : Type 0} (a : Taken A AnyValue) (b : Taken B AnyValue) where
  -- `item` has a native key and a native value
  abbrev pub HasPair : AnyPair → Type 0
  HasPair item = a.is_value item.key × b.is_value item.value

  -- `item` has a native key and a native value, which are in `pair`
  abbrev pub IsPairOf : AnyPair → A × B → Type 0
  IsPairOf item pair = HasPair item × a.shows item.key pair.0 × b.shows item.value pair.1

  -- `status` is the error of `item`: it has no native key, or it has one and no native value
  abbrev pub HasNoPair : AnyPair → ℕ → Type 0
  HasNoPair item status =
      a.is_none item.key status ⊎ (a.is_value item.key × b.is_none item.value status)

  -- `pairs` are the pairs of the items, in order
  abbrev pub ArePairsOf : List AnyPair → List (A × B) → Type 0
  ArePairsOf = AllZip IsPairOf

  -- `status` is the error of an allocation, or of the first item without a pair
  abbrev pub PairsFail : List AnyPair → ℕ → Type 0
  PairsFail items status =
      (status ≡ 12) ⊎ FirstUnfit HasPair (λ item. HasNoPair item status) items

-- how calls take the keys of a type
abbrev pub taken_keys : (k : KeyTypes AnyValue) → Taken k.Native AnyValue
taken_keys k = record { is_value = k.is_value; shows = k.shows; is_none = k.is_none }

-- how calls take the values of a type
abbrev pub taken_values : (v : ValueTypes AnyValue) → Taken v.Native AnyValue
taken_values v = record { is_value = v.is_value; shows = v.shows; is_none = v.is_none }

-- lists of native keys and values, and their archives
module _ (t : Types AnyValue) where
  -- how the pairs are written
  abbrev pub types_format : PairFormat t.key.Native t.value.Native t.key.Resolver t.value.Resolver
  types_format = fx_format t.key.spec t.value.spec t.key.format t.value.format t.key.calls

  -- the pairs that bytes represent
  abbrev pub types_natives : NativePairs t.key.Native t.value.Native
  types_natives = fx_pairs t.key.represents t.value.represents t.key.key_calls

  -- a list of bytes is the archive of the pairs: as an index map if the flag is `true`, and as a
  -- hash map if it is `false`
  abbrev pub IsArchiveOfPairs : Bool → List (t.key.Native × t.value.Native) → List ℕ → Type 0
  IsArchiveOfPairs false = IsArchiveOf t.width.archive types_format types_natives
  IsArchiveOfPairs true = IsIndexOf t.width types_format types_natives

  -- the write of the pairs fails with an error
  abbrev pub ArchiveOfPairsFails : Bool → List (t.key.Native × t.value.Native)
      → WriteError NoMemory → Type 0
  ArchiveOfPairsFails false = ArchiveFails t.width.archive types_format
  ArchiveOfPairsFails true = IndexFails t.width types_format

  -- `b` is the archive of the pairs of the items
  abbrev pub IsArchiveOfItems : List AnyPair → List ℕ → Type 0
  IsArchiveOfItems items b = (pairs : List (t.key.Native × t.value.Native))
      × ArePairsOf (taken_keys t.key) (taken_values t.value) items pairs
      × IsArchiveOfPairs t.indexed pairs b

  -- `status` is the error of items without pairs, or of the write of their pairs
  abbrev pub ArchiveOfItemsFails : List AnyPair → ℕ → Type 0
  ArchiveOfItemsFails items status =
      PairsFail (taken_keys t.key) (taken_values t.value) items status
      ⊎ ((pairs : List (t.key.Native × t.value.Native)) × (error : WriteError NoMemory)
      × ArePairsOf (taken_keys t.key) (taken_values t.value) items pairs
      × ArchiveOfPairsFails t.indexed pairs error × (status ≡ write_status error))

-- the result of the write of the items: the archive, or the status of an error
abbrev pub WritesItems : {Z : Type 0} → Types AnyValue → List AnyPair → Result (Vec ℕ Z) ℕ → Type 0
WritesItems t items result =
    MatchResult result (λ a. IsArchiveOfItems t items a.items) (ArchiveOfItemsFails t items)

module _ {A R : Type 0} (width : ArchiveWidth) (spec : ElementSpec) (format : Format A R)
    (calls : A → List HasherCall) where
  -- the archive of pairs with the unit value is a valid set, and represents the keys of the pairs.
  -- `represents` and `key_calls`: what represents a key, and its hasher calls at a position
  abbrev pub SetArchivesRepresent : (List ℕ → ℕ → A → Type 0) → (List ℕ → ℕ → List HasherCall)
      → Type 0
  SetArchivesRepresent represents key_calls = (pairs : List (A × Unit {0})) (b : List ℕ)
      → IsArchiveOf width (fx_format spec unit_spec format unit_format calls)
      (fx_pairs represents unit_represents key_calls) pairs b
      → IsValidArchive width.limit (set_spec width.word spec) b
      × SetRepresents width.word spec represents (fx_hash_at key_calls) (7, 8) b
      (map_root width.word spec unit_spec b) (map (λ pair. pair.0) pairs)

-- building has no condition
abbrev pub CanBuild : Building → List ℕ → Types AnyValue → Type 0
CanBuild op before t = Unit

-- the result of building
abbrev pub WritesArchive : {Z : Type 0} → Building → List ℕ → Types AnyValue → Result (Vec ℕ Z) ℕ
    → List ℕ → Type 0
WritesArchive op before t result after = WritesItems t op.items.now result

-- the status is 0 and `after` has the archive, or it is an error and `after` is `before`
abbrev pub Outputs : (List ℕ → Type 0) → (ℕ → Type 0) → Built → ℕ → Built → Type 0
Outputs IsArchive Fails before status after =
    ((status ≡ 0) × IsArchive after.bytes.now) ⊎ (Fails status × (after ≡ before))

-- `after` has the archive of the items as the collection with the codes, or the status is an error.
-- It is 7 if the library has no collection with the codes. After an error `after` is `before`.
abbrev pub BuildsByCodes : Codes → List AnyPair → Built → ℕ → Built → Type 0
BuildsByCodes codes items before status after =
    MatchOption (collection_of codes) ((status ≡ 7) × (after ≡ before))
    (λ c. Outputs (IsArchiveOfItems (types_of c) items) (ArchiveOfItemsFails (types_of c) items)
    before status after)
