-- Keys and values of a map, as an archive has them.
use Rattle.std.specs.Prelude.{ℕ, ◌==◌, List, [], ◌∷◌, decimal}
use Rattle.std.specs.Int.{Width, w32}
use Rattle.rkyv_scan.specs.{HasherCall, U32}
use Rattle.rkyv_base.specs.{ElementSpec, IsElement, WidthMembers, number_at, scalar_spec, text_at}
use Rattle.rkyv_base.specs.{text_spec, unsigned}
use Rattle.rkyv_keys.specs.{Comparison, same_bytes, text_calls}
use Rattle.rkyv_dict.specs.declared.form.ArchiveWidth.{ArchiveWidth}
use Rattle.rkyv_dict.specs.declared.form.Form.{Form}
use Rattle.rkyv_dict.specs.declared.form.Kind.{Kind}
use Rattle.rkyv_dict.specs.declared.form.Kind.TheVariants.{Num, Text}
use Rattle.rkyv_dict.specs.Forms.{limit_of, word_of}

-- The keys and values, of one kind, of the maps of an archive.
-- `word`: word of the width, `limit`: greatest length of the archive,
-- `spec`: spec of a key or value, `text`: text of the key or value at a position,
-- `same`: equality, `calls`: hasher calls.
pub record MapTypes : Type 1 where
  pub word : Width
  pub limit : ℕ
  pub spec : ElementSpec
  pub text : List ℕ → ℕ → List ℕ
  pub same : Comparison
  pub calls : List ℕ → ℕ → List HasherCall

-- the types with these members
abbrev pub parts_by : Width → ℕ → ElementSpec → (List ℕ → ℕ → List ℕ) → Comparison
    → (List ℕ → ℕ → List HasherCall) → MapTypes
parts_by word limit spec text same calls =
    record { word = word; limit = limit; spec = spec; text = text; same = same; calls = calls }

-- the members of a `Printable`
abbrev pub PrintableMembers : Type 1
PrintableMembers = record {
  spec : ElementSpec;
  laws : IsElement spec;
  same : Comparison;
  key_calls : List ℕ → ℕ → List HasherCall;
  text : List ℕ → ℕ → List ℕ;
}

-- the types of a map in a width, of keys and values with these members
abbrev pub map_types : WidthMembers → PrintableMembers → MapTypes
map_types width part =
    parts_by width.word width.LIMIT part.spec part.text part.same part.key_calls

-- the spec of a number of 32 bits
abbrev pub number_spec : ElementSpec
number_spec = scalar_spec (unsigned w32)

-- the decimal digits of the number at `p`
abbrev pub number_text : List ℕ → ℕ → List ℕ
number_text b p = decimal (number_at w32 b p)

-- the hasher calls of a number of 32 bits
abbrev pub number_calls : ℕ → List HasherCall
number_calls n = U32 n ∷ []

-- the types of a map of numbers of 32 bits
abbrev pub number_parts : ArchiveWidth → MapTypes
number_parts bits =
    parts_by (word_of bits) (limit_of bits) number_spec number_text
    (λ b p c q. number_at w32 b p == number_at w32 c q) (λ b p. number_calls (number_at w32 b p))

-- the types of a map of texts
abbrev pub text_parts : ArchiveWidth → MapTypes
text_parts bits =
    let text_there = text_at (word_of bits) in
    parts_by (word_of bits) (limit_of bits) (text_spec (word_of bits)) text_there
    (λ b p c q. same_bytes (text_there b p) (text_there c q)) (λ b p. text_calls (text_there b p))

-- the types of a map of the kind in the width
abbrev pub parts_in : Kind → ArchiveWidth → MapTypes
parts_in Num bits = number_parts bits
parts_in Text bits = text_parts bits

-- the types of a map of the form
abbrev pub types_of : Form → MapTypes
types_of form = parts_in form.kind form.bits
