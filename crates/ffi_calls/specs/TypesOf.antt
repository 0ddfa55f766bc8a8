-- The types of a collection: of its keys, of its values and of its width.
use Rattle.std.specs.Prelude.{◌≡◌, ℕ, Bool, List, nat_eq}
use Rattle.std.specs.Borrow.{Bor}
use Rattle.std.specs.Int.{Width, w16, w32, w64, w8}
use Rattle.std.specs.Str.{IsUtf8}
use Rattle.rkyv_scan.specs.{HasherCall, U16, U32, U64, U8}
use Rattle.rkyv_base.specs.{ElementSpec, Encoding, Format, IsByteStringOf, IsElement}
use Rattle.rkyv_base.specs.{ScalarRepresents, bool_encoding, byte_string_format, byte_string_spec}
use Rattle.rkyv_base.specs.{char_encoding, scalar_format, scalar_spec, text_format, text_spec}
use Rattle.rkyv_base.specs.{unit_format, unit_represents, unit_spec, unsigned, written_as}
use Rattle.rkyv_base.specs.declared.bytes.BytesResolver.{BytesResolver}
use Rattle.rkyv_base.specs.declared.strings.TextResolver.{TextResolver}
use Rattle.rkyv_keys.specs.{Comparison, one_call, same_bytes, scalar_calls, scalar_fits}
use Rattle.rkyv_keys.specs.{scalar_same, text_calls, text_fits, text_key_calls, text_same}
use Rattle.ffi_calls.specs.AnyValues.{HasNumber, IsAny, IsCodeNumber, IsNoCode, IsNoText, IsTextFor}
use Rattle.ffi_calls.specs.AnyValues.{Never, ReadsByteString, ReadsBytes, ReadsNumber, ReadsUnit}
use Rattle.ffi_calls.specs.AnyValues.{TextRepresents}
use Rattle.ffi_calls.specs.Archives.{word_of}
use Rattle.ffi_calls.specs.IndexItems.{IndexWidth, index_width_by}
use Rattle.ffi_calls.specs.declared.any_value.AnyValue.{AnyValue}
use Rattle.ffi_calls.specs.declared.collection.Collection.{Collection}
use Rattle.ffi_calls.specs.declared.collection.KeyType.{KeyType}
use Rattle.ffi_calls.specs.declared.collection.KeyType.TheVariants as key
use Rattle.ffi_calls.specs.declared.collection.ValueType.{ValueType}
use Rattle.ffi_calls.specs.declared.collection.ValueType.TheVariants as value

-- the members of an element of keys
abbrev pub StoredKeyMembers : Type 0 → Type 1
StoredKeyMembers A = record {
  any : List ℕ → ℕ → AnyValue → Type 0;
  represents : List ℕ → ℕ → A → Type 0;
  spec : ElementSpec;
  laws : IsElement spec;
  same : Comparison;
  key_calls : List ℕ → ℕ → List HasherCall;
  is_of : AnyValue → A → Type 0;
}

-- the members of an element of values
abbrev pub StoredValueMembers : Type 0 → Type 1
StoredValueMembers B = record {
  any : List ℕ → ℕ → AnyValue → Type 0;
  spec : ElementSpec;
  laws : IsElement spec;
  represents : List ℕ → ℕ → B → Type 0;
  is_of : AnyValue → B → Type 0;
}

-- the members of a native type of keys
abbrev pub NativeKeyMembers : Type 0 → Type 0 → Type 0 → Type 1
NativeKeyMembers P A R = record {
  format : Format A R;
  is_value : P → Type 0;
  shows : P → A → Type 0;
  is_none : P → ℕ → Type 0;
  eq : A → A → Bool;
  calls : A → List HasherCall;
  fits : A → List ℕ → ℕ → Bool;
}

-- the members of a native type of values
abbrev pub NativeValueMembers : Type 0 → Type 0 → Type 0 → Type 1
NativeValueMembers P B R = record {
  format : Format B R;
  is_value : P → Type 0;
  shows : P → B → Type 0;
  is_none : P → ℕ → Type 0;
}

-- a type of keys. `Native`: its native type, whose values calls take as `P`
pub record KeyTypes (P : Type 0) : Type 1 where
  pub Native : Type 0
  pub Resolver : Type 0
  pub any : List ℕ → ℕ → AnyValue → Type 0
  pub represents : List ℕ → ℕ → Native → Type 0
  pub is_of : AnyValue → Native → Type 0
  pub spec : ElementSpec
  pub same : Comparison
  pub key_calls : List ℕ → ℕ → List HasherCall
  pub format : Format Native Resolver
  pub is_value : P → Type 0
  pub shows : P → Native → Type 0
  pub is_none : P → ℕ → Type 0
  pub eq : Native → Native → Bool
  pub calls : Native → List HasherCall
  pub fits : Native → List ℕ → ℕ → Bool

-- a type of values. `Native`: its native type, whose values calls take as `P`
pub record ValueTypes (P : Type 0) : Type 1 where
  pub Native : Type 0
  pub Resolver : Type 0
  pub any : List ℕ → ℕ → AnyValue → Type 0
  pub represents : List ℕ → ℕ → Native → Type 0
  pub is_of : AnyValue → Native → Type 0
  pub spec : ElementSpec
  pub format : Format Native Resolver
  pub is_value : P → Type 0
  pub shows : P → Native → Type 0
  pub is_none : P → ℕ → Type 0

-- the type of keys with these members
abbrev pub key_members : {P A R : Type 0} → NativeKeyMembers P A R → StoredKeyMembers A → KeyTypes P
key_members {P} {A} {R} a k = record {
  Native = A;
  Resolver = R;
  any = k.any;
  represents = k.represents;
  is_of = k.is_of;
  spec = k.spec;
  same = k.same;
  key_calls = k.key_calls;
  format = a.format;
  is_value = a.is_value;
  shows = a.shows;
  is_none = a.is_none;
  eq = a.eq;
  calls = a.calls;
  fits = a.fits;
}

-- the type of values with these members
abbrev pub value_members : {P B R : Type 0} → NativeValueMembers P B R → StoredValueMembers B
    → ValueTypes P
value_members {P} {B} {R} b v = record {
  Native = B;
  Resolver = R;
  any = v.any;
  represents = v.represents;
  is_of = v.is_of;
  spec = v.spec;
  format = b.format;
  is_value = b.is_value;
  shows = b.shows;
  is_none = b.is_none;
}

-- the types of a collection, which is an index map if `indexed` is `true`. `Index`: numbers that
-- are its indices
pub record Types (P : Type 0) : Type 1 where
  pub Index : Type 0
  pub indexed : Bool
  pub width : IndexWidth Index
  pub key : KeyTypes P
  pub value : ValueTypes P

-- the types of a collection with these
abbrev pub types_by : {P I : Type 0} → Bool → IndexWidth I → KeyTypes P → ValueTypes P → Types P
types_by {P} {I} indexed width key value =
    record { Index = I; indexed = indexed; width = width; key = key; value = value }

-- the type of keys that are scalars with the encoding, under one hasher call
abbrev pub scalar_keys : {N : Type 0} → (N → N → Bool) → Encoding N → (N → HasherCall)
    → KeyTypes AnyValue
scalar_keys {N} eq e call = record {
  Native = N;
  Resolver = Unit;
  any = ReadsNumber e;
  represents = ScalarRepresents e;
  is_of = HasNumber e;
  spec = scalar_spec e;
  same = scalar_same e eq;
  key_calls = scalar_calls e call;
  format = scalar_format e;
  is_value = λ any. IsCodeNumber e any.number;
  shows = HasNumber e;
  is_none = λ any status. IsNoCode e any.number × (status ≡ 3);
  eq = eq;
  calls = one_call call;
  fits = scalar_fits e eq;
}

-- the type of keys that are texts in an archive of the word
abbrev pub text_keys : Width → KeyTypes AnyValue
text_keys w = record {
  Native = Bor (List ℕ);
  Resolver = TextResolver;
  any = ReadsBytes w;
  represents = TextRepresents w;
  is_of = IsTextFor;
  spec = text_spec w;
  same = text_same w;
  key_calls = text_key_calls w;
  format = written_as (λ (text : Bor (List ℕ)). text.now) (text_format w);
  is_value = λ any. IsUtf8 any.bytes.now;
  shows = IsTextFor;
  is_none = λ any status. IsNoText any × (status ≡ 4);
  eq = λ a b. same_bytes a.now b.now;
  calls = λ text. text_calls text.now;
  fits = text_fits w (λ (text : Bor (List ℕ)). text.now);
}

-- the type of values that are scalars with the encoding
abbrev pub scalar_values : {N : Type 0} → Encoding N → ValueTypes AnyValue
scalar_values {N} e = record {
  Native = N;
  Resolver = Unit;
  any = ReadsNumber e;
  represents = ScalarRepresents e;
  is_of = HasNumber e;
  spec = scalar_spec e;
  format = scalar_format e;
  is_value = λ any. IsCodeNumber e any.number;
  shows = HasNumber e;
  is_none = λ any status. IsNoCode e any.number × (status ≡ 3);
}

-- the type of values that are texts in an archive of the word
abbrev pub text_values : Width → ValueTypes AnyValue
text_values w = record {
  Native = Bor (List ℕ);
  Resolver = TextResolver;
  any = ReadsBytes w;
  represents = TextRepresents w;
  is_of = IsTextFor;
  spec = text_spec w;
  format = written_as (λ (text : Bor (List ℕ)). text.now) (text_format w);
  is_value = λ any. IsUtf8 any.bytes.now;
  shows = IsTextFor;
  is_none = λ any status. IsNoText any × (status ≡ 4);
}

-- the type of values that are byte strings in an archive of the word
abbrev pub byte_string_values : Width → ValueTypes AnyValue
byte_string_values w = record {
  Native = Bor (List ℕ);
  Resolver = BytesResolver;
  any = ReadsByteString w;
  represents = IsByteStringOf w (λ (string : Bor (List ℕ)). string.now);
  is_of = IsTextFor;
  spec = byte_string_spec w;
  format = written_as (λ (string : Bor (List ℕ)). string.now) (byte_string_format w);
  is_value = λ any. Unit;
  shows = IsTextFor;
  is_none = Never;
}

-- the type of the values of a set
abbrev pub unit_values : ValueTypes AnyValue
unit_values = record {
  Native = Unit;
  Resolver = Unit;
  any = ReadsUnit;
  represents = unit_represents;
  is_of = IsAny;
  spec = unit_spec;
  format = unit_format;
  is_value = λ any. Unit;
  shows = IsAny;
  is_none = Never;
}

-- the type of keys, in an archive of the word
abbrev pub key_type_of : Width → KeyType → KeyTypes AnyValue
key_type_of w key.U8 = scalar_keys nat_eq (unsigned w8) U8
key_type_of w key.U16 = scalar_keys nat_eq (unsigned w16) U16
key_type_of w key.U32 = scalar_keys nat_eq (unsigned w32) U32
key_type_of w key.U64 = scalar_keys nat_eq (unsigned w64) U64
key_type_of w key.Char = scalar_keys nat_eq char_encoding U32
key_type_of w key.Text = text_keys w

-- the type of values, in an archive of the word
abbrev pub value_type_of : Width → ValueType → ValueTypes AnyValue
value_type_of w value.U8 = scalar_values (unsigned w8)
value_type_of w value.U16 = scalar_values (unsigned w16)
value_type_of w value.U32 = scalar_values (unsigned w32)
value_type_of w value.U64 = scalar_values (unsigned w64)
value_type_of w value.Bool = scalar_values bool_encoding
value_type_of w value.Char = scalar_values char_encoding
value_type_of w value.Text = text_values w
value_type_of w value.Bytes = byte_string_values w
value_type_of w value.Unit = unit_values

-- the types of a collection
abbrev pub types_of : Collection → Types AnyValue
types_of c = types_by c.indexed (index_width_by c.wide)
    (key_type_of (word_of c.wide) c.key) (value_type_of (word_of c.wide) c.value)
