-- The types that are inspected, and the errors of inspections.
use Rattle.std.specs.Prelude.{◌≡◌, ℕ, ◌⊎◌, Bool, Err, List, MatchResult, Result, false, true}
use Rattle.std.specs.Int.{Width, w32, w64}
use Rattle.rkyv_base.specs.{AccessFails, ElementSpec, IsValidArchive, entry_spec, scalar_spec}
use Rattle.rkyv_base.specs.{text_spec, unit_spec, unsigned}
use Rattle.rkyv_collections.specs.{map_spec}
use Rattle.rkyv_container.specs.declared.contents.Contents.{Contents}
use Rattle.rkyv_container.specs.declared.contents.ItemType.{ItemType}
use Rattle.rkyv_container.specs.declared.contents.ItemType.TheVariants.{Text, U32, U64}
use Rattle.rkyv_container.specs.declared.contents.ItemType.TheVariants.{Unit as UnitType}
use Rattle.rkyv_container.specs.declared.contents.Kind.{Kind}
use Rattle.rkyv_container.specs.declared.contents.Kind.TheVariants.{HashMap, HashSet, IndexMap}
use Rattle.rkyv_container.specs.declared.contents.Kind.TheVariants.{IndexSet}
use Rattle.rkyv_container.specs.declared.contents.Width.{Width as ArchiveWidth}
use Rattle.rkyv_container.specs.declared.contents.Width.TheVariants.{Narrow, Wide}
use Rattle.rkyv_index.specs.{index_spec}
use Rattle.rkyv_inspect.specs.declared.errors.InspectError.{InspectError}
use Rattle.rkyv_inspect.specs.declared.errors.InspectError.TheVariants.{Invalid, Memory}
use Rattle.rkyv_inspect.specs.declared.errors.InspectError.TheVariants.{Unsupported}
use Rattle.rkyv_inspect.specs.declared.inspection.Inspection.{Inspection}

-- the word of a count or a distance
abbrev pub word_of : ArchiveWidth → Width
word_of Narrow = w32
word_of Wide = w64

-- the greatest length of an archive, in bytes
abbrev pub limit_of : ArchiveWidth → ℕ
limit_of Narrow = 4_294_967_295
limit_of Wide = 9_223_372_036_854_775_807

-- the spec of the keys or values of a supported type
abbrev pub item_spec : Width → ItemType → ElementSpec
item_spec w U32 = scalar_spec (unsigned w32)
item_spec w U64 = scalar_spec (unsigned w64)
item_spec w Text = text_spec w
item_spec w _ = unit_spec

-- keys of the type are supported
abbrev pub is_key_type : ItemType → Bool
is_key_type U32 = true
is_key_type U64 = true
is_key_type Text = true
is_key_type _ = false

-- values of the type are supported in a collection of the kind. Those of a set are unit
abbrev pub is_value_type : Kind → ItemType → Bool
is_value_type _ UnitType = true
is_value_type HashMap item = is_key_type item
is_value_type IndexMap item = is_key_type item
is_value_type _ _ = false

-- the spec of the header of a collection of the kind. A set is a map: its values are unit if `v` is
abbrev pub root_spec : Kind → Width → ElementSpec → ElementSpec → ElementSpec
root_spec HashMap w k v = map_spec w k v
root_spec HashSet w k v = map_spec w k v
root_spec IndexMap w k v = index_spec w (entry_spec k v)
root_spec IndexSet w k v = index_spec w (entry_spec k v)

-- `error`: the first fault of the archive `b`, or that of an allocation for a valid one
abbrev pub IsFault : ℕ → ElementSpec → List ℕ → InspectError → Type 0
IsFault limit root b (Invalid fault) = AccessFails limit root b fault
IsFault limit root b (Unsupported item) = ⊥
IsFault limit root b Memory = IsValidArchive limit root b

-- `result`: an inspection of the archive `b`, if it is valid, or its error
abbrev pub Validates : ℕ → ElementSpec → List ℕ → Result Inspection InspectError → Type 0
Validates limit root b result =
    MatchResult result (λ _. IsValidArchive limit root b) (IsFault limit root b)

-- the same, with keys of the spec `k` and the values of the contents `c`, or the error for
-- the type of values
abbrev pub ValidatesValues
    : Width → ℕ → Contents → ElementSpec → List ℕ → Result Inspection InspectError → Type 0
ValidatesValues w limit c k b result =
    ((is_value_type c.kind c.value ≡ true)
    × Validates limit (root_spec c.kind w k (item_spec w c.value)) b result)
    ⊎ ((is_value_type c.kind c.value ≡ false) × (result ≡ Err (Unsupported c.value)))

-- the same with the keys of the contents, or the error for the type of keys
abbrev pub ValidatesKeys
    : Width → ℕ → Contents → List ℕ → Result Inspection InspectError → Type 0
ValidatesKeys w limit c b result =
    ((is_key_type c.key ≡ true) × ValidatesValues w limit c (item_spec w c.key) b result)
    ⊎ ((is_key_type c.key ≡ false) × (result ≡ Err (Unsupported c.key)))

-- `result`: an inspection of the archive `b` with the contents `c`, if it is valid, or its error
abbrev pub ValidatesContents : Contents → List ℕ → Result Inspection InspectError → Type 0
ValidatesContents c b result = ValidatesKeys (word_of c.width) (limit_of c.width) c b result
