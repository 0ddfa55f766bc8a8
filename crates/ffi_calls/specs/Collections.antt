-- Archived collections, by the codes of their contents.
use Rattle.std.specs.Prelude.{◌≡◌, ℕ, ◌-◌, ◌==◌, Bool, true, false, IsSomeAnd, List}
use Rattle.std.specs.Prelude.{MatchOption, None, Option, Some, cond, length, pos as int}
use Rattle.std.specs.Int.{Width}
use Rattle.std.specs.Option.{option_map, option_zip}
use Rattle.rkyv_base.specs.{ElementSpec, IsValidArchive}
use Rattle.rkyv_collections.specs.{MapAt, map_spec}
use Rattle.rkyv_table.specs.declared.table.decoded.Decoded.{Decoded}
use Rattle.ffi_calls.specs.Archives.{IsHeaderOf, Opens, limit_of, word_of}
use Rattle.ffi_calls.specs.Explanation.{Explains, explained}
use Rattle.ffi_calls.specs.IndexArchives.{index_map}
use Rattle.ffi_calls.specs.TypesOf.{Types, key_type_of, value_type_of}
use Rattle.ffi_calls.specs.declared.any_value.AnyValue.{AnyValue}
use Rattle.ffi_calls.specs.declared.collection.Collection.{Collection}
use Rattle.ffi_calls.specs.declared.collection.Decoding.{Decoding}
use Rattle.ffi_calls.specs.declared.collection.Handle.{Handle}
use Rattle.ffi_calls.specs.declared.collection.KeyType.{KeyType}
use Rattle.ffi_calls.specs.declared.collection.KeyType.TheVariants as key
use Rattle.ffi_calls.specs.declared.collection.Validation.{Validation}
use Rattle.ffi_calls.specs.declared.collection.ValueType.{ValueType}
use Rattle.ffi_calls.specs.declared.collection.ValueType.TheVariants as value
use Rattle.ffi_calls.specs.declared.containers.Codes.{Codes}
use Rattle.ffi_calls.specs.declared.explanation.Explanation.{Explanation}

-- whether the kind with the code is an index map or an index set, or `None` if no kind has it
abbrev pub index_flag : ℕ → Option Bool
index_flag kind = cond (kind == 1) (Some false) (cond (kind == 2) (Some false)
    (cond (kind == 3) (Some true) (cond (kind == 4) (Some true) None)))

-- the type of keys with the code, or `None` if no collection has such keys. The hash and the bytes
-- of a signed integer are the hash and the bytes of the unsigned integer with the same bits.
abbrev pub key_type : ℕ → Option KeyType
key_type code = cond (code == 0x11) (Some key.U8) (cond (code == 0x21) (Some key.U8)
    (cond (code == 0x12) (Some key.U16) (cond (code == 0x22) (Some key.U16)
    (cond (code == 0x14) (Some key.U32) (cond (code == 0x24) (Some key.U32)
    (cond (code == 0x18) (Some key.U64) (cond (code == 0x28) (Some key.U64)
    (cond (code == 0x03) (Some key.Char) (cond (code == 0x04) (Some key.Text) None)))))))))

-- the type of values with the code, or `None` if no collection of the kind has such values.
-- The values of sets are units. Floating-point numbers go by their bits.
abbrev pub value_type : ℕ → ℕ → Option ValueType
value_type kind code = let unit = cond (code == 0x01) (Some value.Unit) None in
    cond (kind == 2) unit (cond (kind == 4) unit
    (cond (code == 0x11) (Some value.U8) (cond (code == 0x21) (Some value.U8)
    (cond (code == 0x12) (Some value.U16) (cond (code == 0x22) (Some value.U16)
    (cond (code == 0x14) (Some value.U32) (cond (code == 0x24) (Some value.U32)
    (cond (code == 0x18) (Some value.U64) (cond (code == 0x28) (Some value.U64)
    (cond (code == 0x34) (Some value.U32) (cond (code == 0x38) (Some value.U64)
    (cond (code == 0x02) (Some value.Bool) (cond (code == 0x03) (Some value.Char)
    (cond (code == 0x04) (Some value.Text) (cond (code == 0x05) (Some value.Bytes)
    None)))))))))))))))

-- whether the width with the code is wide, or `None` if no width has it
abbrev pub wide_flag : ℕ → Option Bool
wide_flag code = cond (code == 4) (Some false) (cond (code == 8) (Some true) None)

-- the collection of a flag, a type of keys, a type of values and a flag
abbrev pub collection_by : (Bool × KeyType) × (ValueType × Bool) → Collection
collection_by p = record { indexed = p.0.0; key = p.0.1; value = p.1.0; wide = p.1.1 }

-- the collection with the codes, or `None` if the library has none
abbrev pub collection_of : Codes → Option Collection
collection_of codes = option_map collection_by
    (option_zip (option_zip (index_flag codes.kind) (key_type codes.key))
    (option_zip (value_type codes.kind codes.value) (wide_flag codes.width)))

-- the spec of a key of the type in an archive of the word
abbrev pub key_type_spec : Width → KeyType → ElementSpec
key_type_spec w of = (key_type_of w of).spec

-- the spec of a value of the type in an archive of the word
abbrev pub value_type_spec : Width → ValueType → ElementSpec
value_type_spec w of = (value_type_of w of).spec

-- the spec of the header of a hash map with keys of spec `k` and values of spec `v`, or of an
-- index map if the flag is `true`. A set is a map to units.
abbrev pub root_spec : Bool → Width → ElementSpec → ElementSpec → ElementSpec
root_spec false w k v = map_spec w k v
root_spec true w k v = index_map w k v

-- the hash map at the root of the archive `b`, or the index map if the flag is `true`
abbrev pub root_in : Bool → Width → ElementSpec → ElementSpec → List ℕ → MapAt
root_in indexed w k v b = record {
  word = w;
  key = k;
  value = v;
  bytes = b;
  pos = length b - (root_spec indexed w k v).size;
}

-- the spec of the header of a collection
abbrev pub collection_spec : Collection → ElementSpec
collection_spec c = let w = word_of c.wide in
    root_spec c.indexed w (key_type_spec w c.key) (value_type_spec w c.value)

-- the collection at the root of an archive
abbrev pub collection_in : Collection → List ℕ → MapAt
collection_in c = let w = word_of c.wide in
    root_in c.indexed w (key_type_spec w c.key) (value_type_spec w c.value)

-- the spec of the header of a collection of these types
abbrev pub types_spec : {P : Type 0} → Types P → ElementSpec
types_spec t = root_spec t.indexed t.width.archive.word t.key.spec t.value.spec

-- `b` is the valid archive of a collection of these types
abbrev pub IsArchiveOfTypes : {P : Type 0} → Types P → List ℕ → Type 0
IsArchiveOfTypes t b = IsValidArchive t.width.archive.limit (types_spec t) b

-- the collection of these types at the root of an archive
abbrev pub types_in : {P : Type 0} → Types P → List ℕ → MapAt
types_in t b = root_in t.indexed t.width.archive.word t.key.spec t.value.spec b

-- validation has no condition
abbrev pub CanValidate : Validation → List ℕ → Types AnyValue → Type 0
CanValidate op before t = Unit

-- the result of validation
abbrev pub ExplainsTypes : Validation → List ℕ → Types AnyValue → Explanation → List ℕ → Type 0
ExplainsTypes op before t result after =
    Explains t.width.archive.limit (types_spec t) op.archive.now result

-- the condition of decoding: the archive is valid
abbrev pub CanDecode : Decoding → List ℕ → Types AnyValue → Type 0
CanDecode op before t = IsArchiveOfTypes t op.archive.now

-- the result of decoding
abbrev pub DecodesTypes : Decoding → List ℕ → Types AnyValue → Decoded → List ℕ → Type 0
DecodesTypes op before t result after = IsHeaderOf (types_in t op.archive.now) result

-- `b` is the valid archive of the collection with the codes
abbrev pub IsValidByCodes : Codes → List ℕ → Type 0
IsValidByCodes codes b = IsSomeAnd (collection_of codes)
    (λ c. IsValidArchive (limit_of c.wide) (collection_spec c) b)

-- `b` is valid and the status is 0, or the status is the first validation error's.
-- It is 7 if the library has no collection with the codes.
abbrev pub OpensByCodes : Codes → List ℕ → ℕ → Type 0
OpensByCodes codes b status = MatchOption (collection_of codes) (status ≡ 7)
    (λ c. Opens (limit_of c.wide) (collection_spec c) b status)

-- `b` is valid and there is no error, or it is the first validation error.
-- Its status is 7, and its numbers are 0, if the library has no collection with the codes.
abbrev pub ExplainsByCodes : Codes → List ℕ → Explanation → Type 0
ExplainsByCodes codes b result = MatchOption (collection_of codes)
    (result ≡ explained 7 (int 0) 0 0)
    (λ c. Explains (limit_of c.wide) (collection_spec c) b result)

-- the type of keys with the number in a handle
abbrev pub key_type_in : ℕ → KeyType
key_type_in number = cond (number == 0) key.U8 (cond (number == 1) key.U16
    (cond (number == 2) key.U32 (cond (number == 3) key.U64 (cond (number == 4) key.Char
    key.Text))))

-- the type of values with the number in a handle
abbrev pub value_type_in : ℕ → ValueType
value_type_in number = cond (number == 0) value.U8 (cond (number == 1) value.U16
    (cond (number == 2) value.U32 (cond (number == 3) value.U64 (cond (number == 4) value.Bool
    (cond (number == 5) value.Char (cond (number == 6) value.Text (cond (number == 7) value.Bytes
    value.Unit)))))))

-- the collection of a handle
abbrev pub collection_at : Handle → Collection
collection_at handle = record {
  indexed = handle.indexed;
  key = key_type_in handle.key;
  value = value_type_in handle.value;
  wide = handle.wide;
}

-- `b` is a valid archive of the handle's collection, whose decoded header the handle has
pub record IsHandleOf (b : List ℕ) (handle : Handle) : Type 0 where
  pub archive : IsValidArchive (limit_of handle.wide) (collection_spec (collection_at handle)) b
  pub header : IsHeaderOf (collection_in (collection_at handle) b) handle.header
