-- The format of the keys of a set: a map of the keys, each with the unit value.
use Rattle.std.specs.Prelude.{ℕ, List}
use Rattle.std.specs.Int.{Width}
use Rattle.rkyv_base.specs.{ElementSpec, Format, IsFormat, unit_format, unit_represents, unit_spec}
use Rattle.rkyv_base.specs.{written_as}
use Rattle.rkyv_table.specs.{TableResolver, with_units}
use Rattle.rkyv_collections.specs.Map.MapFormat.{MapRepresents, map_format}
use Rattle.rkyv_collections.specs.Set.{set_spec}

-- the format of a list of keys, in insertion order, as a set under a load factor
abbrev pub set_format : {A R : Type 0} → Width → ElementSpec → Format A R → (A → ℕ) → ℕ × ℕ
    → Format (List A) TableResolver
set_format w k key hash load_factor =
    written_as with_units (map_format w k unit_spec key unit_format hash load_factor)

-- the set at `p` represents the keys
abbrev pub SetRepresents : {A : Type 0} → Width → ElementSpec → (List ℕ → ℕ → A → Type 0) → (List ℕ
    → ℕ → ℕ)
    → ℕ × ℕ → List ℕ → ℕ → List A → Type 0
SetRepresents w k key hash load_factor b p keys =
    MapRepresents w k unit_spec key unit_represents hash load_factor b p (with_units keys)

-- in any archive with the written bytes of a set and its header, the set represents the keys,
-- under each load factor
abbrev pub WrittenSetsRepresent : {A R : Type 0} → Width → ElementSpec → (List ℕ → ℕ → A → Type 0)
    → (List ℕ → ℕ → ℕ) → Format A R → (A → ℕ) → Type 0
WrittenSetsRepresent w k key hash format own = (load_factor : ℕ × ℕ)
    → IsFormat (set_spec w k) (SetRepresents w k key hash load_factor)
    (set_format w k format own load_factor)
