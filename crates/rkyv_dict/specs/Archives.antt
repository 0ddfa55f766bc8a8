-- Archives of a form: validity, lookups, listings and the audit.
use Rattle.std.specs.Prelude.{ℕ, ◌==◌, ◌+◌, ◌-◌, Bool, List, [], ◌∷◌, ◌++◌, length, Option, Some}
use Rattle.std.specs.Prelude.{None, codes, decimal}
use Rattle.std.specs.Int.{w32}
use Rattle.std.specs.List.{flat_map}
use Rattle.std.specs.Option.{option_map}
use Rattle.rkyv_scan.specs.{HasherCall, fx_hash, generic_kind, low_halves}
use Rattle.rkyv_base.specs.{AccessFails, ElementSpec, IsValidArchive, entry_spec, number_at}
use Rattle.rkyv_base.specs.{text_at, value_offset}
use Rattle.rkyv_base.specs.declared.errors.VerifyError.{VerifyError}
use Rattle.rkyv_keys.specs.{same_bytes, text_calls}
use Rattle.rkyv_table.specs.{item_positions, len_at, pos_found}
use Rattle.rkyv_collections.specs.{map_misplaced, map_spec}
use Rattle.rkyv_dict.specs.declared.form.ArchiveWidth.{ArchiveWidth}
use Rattle.rkyv_dict.specs.declared.form.Form.{Form}
use Rattle.rkyv_dict.specs.declared.form.Kind.{Kind}
use Rattle.rkyv_dict.specs.declared.form.Kind.TheVariants.{Num, Text}
use Rattle.rkyv_dict.specs.Forms.{LookupKey, number_key, text_key, word_of}
use Rattle.rkyv_dict.specs.Maps.{MapTypes, number_calls, number_parts, text_parts, types_of}

-- the text, then LF
abbrev pub line : List ℕ → List ℕ
line text = text ++ 10 ∷ []

-- the line of the text of a value, or `none`
abbrev pub value_line : Option (List ℕ) → List ℕ
value_line None = line (codes "none")
value_line (Some text) = line text

-- the line of the pair at `q`: the text of its key, a space, and the text of its value
unfoldable pub line_at : ElementSpec → (List ℕ → ℕ → List ℕ) → List ℕ → ℕ → List ℕ
line_at s text b q = line (text b q ++ codes " " ++ text b (q + value_offset s s))

-- the FxHash of the hasher calls
abbrev pub hash : List HasherCall → ℕ
hash calls = fx_hash low_halves calls

module _ (k : MapTypes) where
  -- the spec of a pair
  abbrev pub pair_spec : ElementSpec
  pair_spec = entry_spec k.spec k.spec

  -- the spec of a map's header
  abbrev pub header_spec : ElementSpec
  header_spec = map_spec k.word k.spec k.spec

  module _ (b : List ℕ) where
    -- `b` is the valid archive of a map, whose header is the root
    unfoldable pub IsMapArchive : Type 0
    IsMapArchive = IsValidArchive k.limit header_spec b

    -- `e` is the first error of the validation of `b`
    unfoldable pub MapValidationFails : VerifyError → Type 0
    MapValidationFails e = AccessFails k.limit header_spec b e

    -- the position of the root, at the end of `b`
    abbrev pub root : ℕ
    root = length b - header_spec.size

    -- the number of pairs of the map
    unfoldable pub pair_count : ℕ
    pair_count = len_at k.word b root

    -- the positions of the pairs, in bucket order
    unfoldable pub pair_positions : List ℕ
    pair_positions = item_positions k.word pair_spec.size b root

    -- the text of the value of the pair at `q`
    abbrev pub value_text : ℕ → List ℕ
    value_text q = k.text b (q + value_offset k.spec k.spec)

    -- the line of the number of pairs, then the line of each pair in bucket order
    unfoldable pub pair_lines : List ℕ
    pair_lines = line (codes "entries " ++ decimal pair_count)
        ++ flat_map (line_at k.spec k.text b) pair_positions

    -- the text of the value that a lookup finds
    -- (`calls`: hasher calls of the key, `accept`: test of the key at a position)
    unfoldable pub value_under : List HasherCall → (ℕ → Bool) → Option (List ℕ)
    value_under calls accept = option_map value_text
        (pos_found generic_kind k.word pair_spec.size b root (hash calls) accept)

    -- the number of keys that a lookup doesn't find in their own bucket
    unfoldable pub keys_misplaced : ℕ
    keys_misplaced = map_misplaced k.word k.spec k.spec (λ c q. hash (k.calls c q)) k.same b root

-- `b` is a valid archive of the form
abbrev pub IsArchive : Form → List ℕ → Type 0
IsArchive form b = IsMapArchive (types_of form) b

-- `e` is the first error of the validation of `b` as an archive of the form
abbrev pub ValidationFails : Form → List ℕ → VerifyError → Type 0
ValidationFails form b e = MapValidationFails (types_of form) b e

-- the number of pairs of the archive
abbrev pub entry_count : Form → List ℕ → ℕ
entry_count form b = pair_count (types_of form) b

-- the line of the number of pairs, then the line of each pair in bucket order
abbrev pub listing : Form → List ℕ → List ℕ
listing form b = pair_lines (types_of form) b

-- the number of keys of the archive that a lookup doesn't find in their own bucket
abbrev pub misplaced_count : Form → List ℕ → ℕ
misplaced_count form b = keys_misplaced (types_of form) b

-- the text of the value that a lookup finds; a key of the other kind is never found
abbrev pub found_in : Kind → ArchiveWidth → List ℕ → LookupKey → Option (List ℕ)
found_in Num bits b (number_key n) =
    value_under (number_parts bits) b (number_calls n) (λ q. n == number_at w32 b q)
found_in Text bits b (text_key t) =
    value_under (text_parts bits) b (text_calls t) (λ q. same_bytes t (text_at (word_of bits) b q))
found_in Num bits b (text_key t) = None
found_in Text bits b (number_key n) = None

-- the text of the value that a lookup of `key` finds in an archive of the form
abbrev pub value_found : Form → List ℕ → LookupKey → Option (List ℕ)
value_found form b key = found_in form.kind form.bits b key
