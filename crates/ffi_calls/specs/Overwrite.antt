-- Overwrites of values that are numbers, in hash maps and in index maps of any types.
use Rattle.std.specs.Prelude.{◌≡◌, ℕ, ◌⊎◌, Bool, true, false, List, Option}
use Rattle.std.specs.Int.{Width, w16, w32, w64, w8}
use Rattle.rkyv_scan.specs.{HasherCall}
use Rattle.rkyv_base.specs.{ElementSpec, Encoding, IsValidArchive, ScalarRepresents, unsigned}
use Rattle.rkyv_keys.specs.{NativePairs}
use Rattle.rkyv_collections.specs.{MapAt}
use Rattle.ffi_calls.specs.Archives.{KeepsHeader, Overwrites, limit_of, value_found, word_of}
use Rattle.ffi_calls.specs.Collections.{key_type_spec, root_in, root_spec}
use Rattle.ffi_calls.specs.Collections.{value_type_spec}
use Rattle.ffi_calls.specs.IndexInPlace.{value_found_in}
use Rattle.ffi_calls.specs.IndexLists.{IndexRepresentsPairs}
use Rattle.ffi_calls.specs.Lists.{PairsRepresent, SetsFirstPair, fx_pairs}
use Rattle.ffi_calls.specs.TypesOf.{KeyTypes, key_type_of}
use Rattle.ffi_calls.specs.declared.any_value.AnyValue.{AnyValue}
use Rattle.ffi_calls.specs.declared.collection.Collection.{Collection}
use Rattle.ffi_calls.specs.declared.collection.ValueType.{ValueType}
use Rattle.ffi_calls.specs.declared.collection.ValueType.TheVariants as value

-- the position of the value that a lookup finds in a hash map, or in an index map if the flag is
-- `true`. `calls`: hasher calls of the key, `fits`: test of the key at a position
abbrev pub value_found_by : Bool → MapAt → List HasherCall → (ℕ → Bool) → Option ℕ
value_found_by false m calls fits = value_found m calls fits
value_found_by true m calls fits = value_found_in m calls fits

-- the hash map, or the index map if the flag is `true`, represents the pairs, under the load factor
abbrev pub RepresentsBy : {A N : Type 0} → Bool → MapAt → NativePairs A N → ℕ × ℕ → List (A × N)
    → Type 0
RepresentsBy false m native factor pairs = PairsRepresent m native factor pairs
RepresentsBy true m native factor pairs = IndexRepresentsPairs m native factor pairs

module _ (indexed : Bool) (limit : ℕ) (w : Width) where
  -- the archive `c` is valid, and has the header of the archive `b`. `k` and `v`: specs of keys and
  -- of values
  pub record KeepsRoot (k v : ElementSpec) (b c : List ℕ) : Type 0 where
    pub valid : IsValidArchive limit (root_spec indexed w k v) c
    pub header : KeepsHeader (root_in indexed w k v b) (root_in indexed w k v c)

module _ {N P : Type 0} (indexed : Bool) (w : Width) (k : KeyTypes P) (v : ElementSpec)
    (e : Encoding N) (b : List ℕ) where
  -- `c` is `b` after an overwrite of the value of the native key: by the bytes, and in terms of
  -- each list that the map represents
  pub record SetsKey (key : k.Native) (number status : ℕ) (c : List ℕ) : Type 0 where
    pub sets : Overwrites e b
        (value_found_by indexed (root_in indexed w k.spec v b) (k.calls key) (k.fits key b))
        number status c
    pub listed : SetsFirstPair (k.eq key) e
        (RepresentsBy indexed (root_in indexed w k.spec v b)
        (fx_pairs k.represents (ScalarRepresents e) k.key_calls))
        (RepresentsBy indexed (root_in indexed w k.spec v c)
        (fx_pairs k.represents (ScalarRepresents e) k.key_calls)) number status

module _ {P : Type 0} (indexed : Bool) (w : Width) (k : KeyTypes P) (b : List ℕ) where
  -- `c` is `b` after an overwrite of the value of the native key. The status is 7 and `c` is `b` if
  -- values of the type are no numbers
  abbrev pub SetsKeyOf : ValueType → k.Native → ℕ → ℕ → List ℕ → Type 0
  SetsKeyOf value.U8 key number status c =
      SetsKey indexed w k (value_type_spec w value.U8) (unsigned w8) b key number status c
  SetsKeyOf value.U16 key number status c =
      SetsKey indexed w k (value_type_spec w value.U16) (unsigned w16) b key number status c
  SetsKeyOf value.U32 key number status c =
      SetsKey indexed w k (value_type_spec w value.U32) (unsigned w32) b key number status c
  SetsKeyOf value.U64 key number status c =
      SetsKey indexed w k (value_type_spec w value.U64) (unsigned w64) b key number status c
  SetsKeyOf value.Bool key number status c = (status ≡ 7) × (c ≡ b)
  SetsKeyOf value.Char key number status c = (status ≡ 7) × (c ≡ b)
  SetsKeyOf value.Text key number status c = (status ≡ 7) × (c ≡ b)
  SetsKeyOf value.Bytes key number status c = (status ≡ 7) × (c ≡ b)
  SetsKeyOf value.Unit key number status c = (status ≡ 7) × (c ≡ b)

  -- `c` is `b` after an overwrite of the value of `key`. If no native key has the form, `c` is `b`
  abbrev pub SetsShown : ValueType → P → ℕ → ℕ → List ℕ → Type 0
  SetsShown of key number status c = (k.is_none key status × (c ≡ b))
      ⊎ ((native : k.Native) × k.is_value key × k.shows key native
      × SetsKeyOf of native number status c)

-- the archive `c` is of the collection `of`, as `b` is, and has the header of `b`
abbrev pub KeepsCollection : Collection → List ℕ → List ℕ → Type 0
KeepsCollection of b c = let w = word_of of.wide in KeepsRoot of.indexed (limit_of of.wide) w
    (key_type_spec w of.key) (value_type_spec w of.value) b c

-- the result of an overwrite of the value of `key` in a collection
abbrev pub SetsIn : Collection → List ℕ → AnyValue → ℕ → ℕ → List ℕ → Type 0
SetsIn of b key number status c = let w = word_of of.wide in
    SetsShown of.indexed w (key_type_of w of.key) b of.value key number status c
