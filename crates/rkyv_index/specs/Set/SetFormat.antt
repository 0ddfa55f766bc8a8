-- The format of a list as an index set: as an index map of the items to the unit value.
use Rattle.std.specs.Prelude.{ℕ, List}
use Rattle.std.specs.Int.{Width}
use Rattle.rkyv_base.specs.{ElementSpec, Encoding, Format, IsFormat, unit_format, unit_represents}
use Rattle.rkyv_base.specs.{unit_spec, written_as}
use Rattle.rkyv_table.specs.{with_units}
use Rattle.rkyv_index.specs.Map.IndexFormat.{ArchivedAs, IndexRepresents, IndicesAs, index_format}
use Rattle.rkyv_index.specs.Map.IndexHeader.{IndexResolver}
use Rattle.rkyv_index.specs.Set.IndexSet.{index_set_spec}

-- the format of a list of keys, in insertion order, as an index set under a load factor
abbrev pub index_set_format : {P A R : Type 0} → Width → ElementSpec → Encoding P → ElementSpec
    → Format A R → (A → ℕ)
    → ℕ × ℕ → Format (List A) IndexResolver
index_set_format w ps e k key hash load_factor =
    written_as with_units (index_format w ps e k unit_spec key unit_format hash load_factor)

-- the index set at `p` represents the list `keys`
abbrev pub IndexSetRepresents : {A : Type 0} → Width → ElementSpec → (List ℕ → ℕ → A → Type 0)
    → (List ℕ → ℕ → ℕ) → ℕ × ℕ → List ℕ → ℕ → List A → Type 0
IndexSetRepresents w k key hash load_factor b p keys =
    IndexRepresents w k unit_spec key unit_represents hash load_factor b p (with_units keys)

-- Under each load factor, written bytes of keys and an aligned header behind them are a valid
-- index set. It represents the keys, in any archive that has these bytes.
abbrev pub WrittenIndexSets : {P A R : Type 0} → Width → IndicesAs P → ArchivedAs A R
    → (List ℕ → ℕ → ℕ) → (A → ℕ) → Type 0
WrittenIndexSets w hashed_indices k key_hash hash =
    (load_factor : ℕ × ℕ)
    → IsFormat (index_set_spec w k.spec)
    (IndexSetRepresents w k.spec k.represents key_hash load_factor)
    (index_set_format w hashed_indices.spec hashed_indices.encoding k.spec k.format hash
    load_factor)
