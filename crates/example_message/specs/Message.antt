-- Messages: validity, the list of parts that a message represents, and the number of a field.
use Rattle.std.specs.Prelude.{◌≡◌, ℕ, ◌-◌, Bool, List, MatchOption, Option, None, Some}
use Rattle.std.specs.Prelude.{false, length, true}
use Rattle.std.specs.Borrow.{Bor}
use Rattle.std.specs.Int.{w32}
use Rattle.std.specs.Option.{is_some, option_map}
use Rattle.rkyv_scan.specs.{fx_hasher, generic_kind, low_halves}
use Rattle.rkyv_base.specs.{AccessFails, ArchiveOf, ElementSpec, Format, IsTextOf, IsValidArchive}
use Rattle.rkyv_base.specs.{ScalarRepresents, ToBytesFails, Viewable, entry_spec, scalar_format}
use Rattle.rkyv_base.specs.{scalar_spec, text_at, text_format, text_spec, unsigned, value_pos}
use Rattle.rkyv_base.specs.{with_value, written_as}
use Rattle.rkyv_base.specs.declared.errors.VerifyError.{VerifyError}
use Rattle.rkyv_base.specs.declared.errors.WriteError.{WriteError}
use Rattle.rkyv_keys.specs.{first_value, hash_at, hash_of, same_bytes, text_calls}
use Rattle.rkyv_keys.specs.{text_key_calls, with_first}
use Rattle.rkyv_table.specs.{TableResolver, listed, pos_found, written_as_each}
use Rattle.rkyv_collections.specs.{FindsFirstKeyAt, IsKeyPosAt, MapRepresents, listed_pairs}
use Rattle.rkyv_collections.specs.{map_format, map_spec, pairs_load_factor}
use Rattle.rkyv_collections.specs.declared.lists.pairs.MapPairs.{MapPairs}

-- names, each with a number
abbrev pub FieldList : Type 0
FieldList = List (Bor (List ℕ) × ℕ)

-- names, each with its fields and their load factor
abbrev pub Parts : Type 0
Parts = List (Bor (List ℕ) × MapPairs (Bor (List ℕ)) ℕ ℕ)

-- the spec of a name
abbrev pub name_spec : ElementSpec
name_spec = text_spec w32

-- the spec of a number
abbrev pub number_spec : ElementSpec
number_spec = scalar_spec (unsigned w32)

-- the spec of the header of a part's fields
abbrev pub fields_spec : ElementSpec
fields_spec = map_spec w32 name_spec number_spec

-- the spec of a message's header
abbrev pub header_spec : ElementSpec
header_spec = map_spec w32 name_spec fields_spec

-- the position of the header of `message`
abbrev pub root : List ℕ → ℕ
root message = length message - header_spec.size

-- `message` is a valid message
unfoldable pub IsMessage : List ℕ → Type 0
IsMessage message = IsValidArchive 4_294_967_295 header_spec message

-- `e` is the first error of the validation of `message`
unfoldable pub ValidationFails : List ℕ → VerifyError → Type 0
ValidationFails message e = AccessFails 4_294_967_295 header_spec message e

-- the bytes at a position represent the name
abbrev pub NameRepresents : List ℕ → ℕ → Bor (List ℕ) → Type 0
NameRepresents = IsTextOf w32 (λ name. name.now)

-- the hash of the name at a position
abbrev pub name_hash : List ℕ → ℕ → ℕ
name_hash = hash_at (fx_hasher low_halves) (text_key_calls w32)

-- a valid map of fields is at position `p`
abbrev pub IsFields : List ℕ → ℕ → Type 0
IsFields b p = Viewable fields_spec b p

-- the map at a position represents the fields, under the load factor
abbrev pub FieldsRepresent : ℕ × ℕ → List ℕ → ℕ → FieldList → Type 0
FieldsRepresent factor =
    MapRepresents w32 name_spec number_spec NameRepresents (ScalarRepresents (unsigned w32))
    name_hash factor

-- the map at `p` represents the fields of `part`
abbrev pub PartRepresents : List ℕ → ℕ → MapPairs (Bor (List ℕ)) ℕ ℕ → Type 0
PartRepresents b p part = FieldsRepresent (pairs_load_factor part) b p (listed_pairs part)

-- the map at a position represents the parts, under the load factor
abbrev pub PartsRepresent : ℕ × ℕ → List ℕ → ℕ → Parts → Type 0
PartsRepresent factor =
    MapRepresents w32 name_spec fields_spec NameRepresents PartRepresents name_hash factor

-- `message` represents the parts
unfoldable pub Represents : List ℕ → Parts → Type 0
Represents message parts = PartsRepresent (7, 8) message (root message) parts

-- the format of a list of names, each with a value of the spec
abbrev pub map_of_names : {B R : Type 0} → ElementSpec → Format B R → ℕ × ℕ
    → Format (List (Bor (List ℕ) × B)) TableResolver
map_of_names spec format factor = listed 4_294_967_295 factor (map_format w32 name_spec spec
    (written_as (λ name. name.now) (text_format w32)) format
    (hash_of (fx_hasher low_halves) (λ name. text_calls name.now)) factor)

-- the format of the fields of a part
abbrev pub part_format : Format (MapPairs (Bor (List ℕ)) ℕ ℕ) TableResolver
part_format = written_as_each (λ part. listed_pairs part)
    (λ part. map_of_names number_spec (scalar_format (unsigned w32)) (pairs_load_factor part))

-- the format of the parts, under the load factor
abbrev pub parts_format : ℕ × ℕ → Format Parts TableResolver
parts_format factor = map_of_names fields_spec part_format factor

-- `message` is the message of the parts: valid, it represents them, and it has no other bytes
unfoldable pub IsMessageOf : Parts → List ℕ → Type 0
IsMessageOf parts message =
    ArchiveOf 4_294_967_295 header_spec (PartsRepresent (7, 8)) (parts_format (7, 8)) parts message

-- the write of the parts fails with `e`
unfoldable pub MessageFails : {F : Type 0} → Parts → WriteError F → Type 0
MessageFails parts e = ToBytesFails 4_294_967_295 header_spec (parts_format (7, 8)) parts e

-- `stored` equals the name
abbrev pub is_named : List ℕ → Bor (List ℕ) → Bool
is_named name stored = same_bytes name stored.now

-- the number of the first field with the name
abbrev pub number_in : List ℕ → FieldList → Option ℕ
number_in field fields = first_value (is_named field) fields

-- the number of the first field with the name in the fields of a part, if there is one
abbrev pub number_of_part : List ℕ → Option (MapPairs (Bor (List ℕ)) ℕ ℕ) → Option ℕ
number_of_part field None = None
number_of_part field (Some part) = number_in field (listed_pairs part)

-- the number of the first field with the name, in the first part with the name
abbrev pub first_number : List ℕ → List ℕ → Parts → Option ℕ
first_number part field parts = number_of_part field (first_value (is_named part) parts)

-- the map at the position represents the fields of the part, or both are `None`
abbrev pub RepresentsIfFound : List ℕ → Option (MapPairs (Bor (List ℕ)) ℕ ℕ) → Option ℕ → Type 0
RepresentsIfFound b None None = Unit {0}
RepresentsIfFound b (Some part) (Some p) = PartRepresents b p part
RepresentsIfFound b None (Some p) = ⊥
RepresentsIfFound b (Some part) None = ⊥

-- the map at the position represents the fields of the first part with the name, or both are `None`
abbrev pub ArePartsFields : List ℕ → List ℕ → Parts → Option ℕ → Type 0
ArePartsFields b part parts p = RepresentsIfFound b (first_value (is_named part) parts) p

-- the name at position `q` equals `name`
abbrev pub is_named_at : List ℕ → List ℕ → ℕ → Bool
is_named_at name b q = same_bytes name (text_at w32 b q)

-- `p` is the position of the fields of a part of the message, behind its name
abbrev pub IsPartsPos : List ℕ → ℕ → Type 0
IsPartsPos b p = (q : ℕ) × IsKeyPosAt w32 name_spec fields_spec b (root b) q
    × (p ≡ value_pos name_spec fields_spec q)

-- in a written message, `found` is the position of the fields of the first part with the name
abbrev pub FindsFirstPart : List ℕ → List ℕ → Option ℕ → Type 0
FindsFirstPart b part found = FindsFirstKeyAt w32 name_spec fields_spec b (root b) name_hash
    (is_named_at part b) (λ key_pos. found ≡ option_map (value_pos name_spec fields_spec) key_pos)

-- the position of the value whose name a lookup finds in the map at `p`
abbrev pub value_found : ElementSpec → List ℕ → List ℕ → ℕ → Option ℕ
value_found spec name b p = option_map (value_pos name_spec spec)
    (pos_found generic_kind w32 (entry_spec name_spec spec).size b p
    (hash_of (fx_hasher low_halves) text_calls name) (is_named_at name b))

-- the position of the fields that a lookup of the part finds in any valid message
abbrev pub fields_found : List ℕ → List ℕ → Option ℕ
fields_found part message = value_found fields_spec part message (root message)

-- the position of the number that a lookup of the field finds in the fields at a position
abbrev pub number_in_fields : List ℕ → List ℕ → Option ℕ → Option ℕ
number_in_fields field message None = None
number_in_fields field message (Some p) = value_found number_spec field message p

-- the position of the number that lookups of the part and the field find in the message
abbrev pub number_found : List ℕ → List ℕ → List ℕ → Option ℕ
number_found part field message = number_in_fields field message (fields_found part message)

-- `c` is `b` with the number at `key_pos` overwritten, and `found` is `true`.
-- At `None`, `c` is `b` and `found` is `false`.
abbrev pub WritesIfFound : Option ℕ → ℕ → List ℕ → List ℕ → Bool → Type 0
WritesIfFound key_pos number b c found = MatchOption key_pos ((found ≡ false) × (c ≡ b))
    (λ q. (found ≡ true) × (c ≡ with_value (unsigned w32) b q number))

-- `c` is `b` with the number of the field overwritten if lookups find one; `found` is the result
abbrev pub WritesNumber : List ℕ → List ℕ → ℕ → List ℕ → List ℕ → Bool → Type 0
WritesNumber part field number b c found =
    WritesIfFound (number_found part field b) number b c found

-- the part, with `number` in the first field with the name
abbrev pub with_field : List ℕ → ℕ → MapPairs (Bor (List ℕ)) ℕ ℕ → MapPairs (Bor (List ℕ)) ℕ ℕ
with_field field number part = record part {
  pairs = record part.pairs { now = with_first (is_named field) number part.pairs.now };
}

-- the parts, with `number` in the first part with the name, if there is one
abbrev pub with_part : List ℕ → List ℕ → ℕ → Parts → Option (MapPairs (Bor (List ℕ)) ℕ ℕ) → Parts
with_part part field number parts None = parts
with_part part field number parts (Some fields) =
    with_first (is_named part) (with_field field number fields) parts

-- the parts, with `number` in the first field with the name, in the first part with the name
abbrev pub with_number : List ℕ → List ℕ → ℕ → Parts → Parts
with_number part field number parts =
    with_part part field number parts (first_value (is_named part) parts)

-- `found` is `true` if the parts have the field; `message` represents them with the new number
abbrev pub SetsNumber : List ℕ → List ℕ → ℕ → Parts → List ℕ → Bool → Type 0
SetsNumber part field number parts message found =
    (found ≡ is_some (first_number part field parts))
    × Represents message (with_number part field number parts)
