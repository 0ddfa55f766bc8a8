-- The result of writing an index map.
use Rattle.std.specs.Prelude.{◌≡◌, ℕ, ◌⊎◌, List, MatchResult, Result, length, map}
use Rattle.rkyv_base.specs.{ElementSpec, Format, Output, SerializeFails, Serialized, WidthMembers}
use Rattle.rkyv_base.specs.{scalar_format}
use Rattle.rkyv_base.specs.declared.adapter.EntryAdapter.{EntryAdapter}
use Rattle.rkyv_base.specs.declared.errors.WriteError.{WriteError}
use Rattle.rkyv_table.specs.{OwnCause, TableResolver, table_format}
use Rattle.rkyv_index.specs.Map.IndexFormat.{IndicesAs, indices_from, row_format}
use Rattle.rkyv_index.specs.Map.IndexHeader.{IndexResolver}

-- the pairs of key and value of the entries
abbrev pub pairs_of : {BK BV A B : Type 0} → List (EntryAdapter BK BV A B) → List (BK × BV)
pairs_of entries = map (λ entry. (entry.key, entry.value)) entries

-- `e` is an error before the first byte, and nothing was written; or else writing failed
abbrev pub OwnOrSerializeFails : {F V R : Type 0} → ℕ → ℕ × ℕ → ℕ → (ℕ → Type 0) → ℕ → Format V R
    → V → Output → Output → WriteError F → Type 0
OwnOrSerializeFails len load_factor max other limit f v o o' e =
    (OwnCause len load_factor max other e × (o' ≡ o)) ⊎ SerializeFails limit f v o o' e

-- no number
abbrev pub NoOther : ℕ → Type 0
NoOther n = ⊥

-- a list to be written: its values, each under its hash, and the load factor
pub record HashedList (X : Type 0) : Type 0 where
  pub hash : X → ℕ
  pub load_factor : ℕ × ℕ
  pub values : List X

-- the values, each under its hash
abbrev pub hashed : {X : Type 0} → (X → ℕ) → ℕ × ℕ → List X → HashedList X
hashed hash load_factor values =
    record { hash = hash; load_factor = load_factor; values = values }

-- the values of an index map to be written: their spec, their format and their list
pub record HashedRow (X R : Type 0) : Type 1 where
  pub spec : ElementSpec
  pub format : Format X R
  pub list : HashedList X

-- the values of this spec and format, each under its hash
abbrev pub hashed_row : {X R : Type 0} → ElementSpec → Format X R → (X → ℕ) → ℕ × ℕ → List X
    → HashedRow X R
hashed_row spec format hash load_factor values =
    record { spec = spec; format = format; list = hashed hash load_factor values }

module _ {F P X : Type 0} (width : WidthMembers) (indices : IndicesAs P) where
  -- `result`: the resolver of the written table, or the error. The table has the indices
  -- of the values, each under the hash of its value
  abbrev pub WritesIndices : HashedList X → Output → Output → Result TableResolver (WriteError F)
      → Type 0
  WritesIndices xs o o' result =
      let f =
      table_format width.word indices.spec (scalar_format indices.encoding) xs.load_factor in
      let pairs = indices_from xs.hash indices.encoding.value 0 xs.values in
      MatchResult result (Serialized width.LIMIT f pairs o o')
      (OwnOrSerializeFails (length xs.values) xs.load_factor width.MAX_CAPACITY NoOther
      width.LIMIT f pairs o o')

  -- `result`: the resolver of the written index map of the values, or the error. Each value is
  -- under its hash
  abbrev pub WritesEntries : {R : Type 0} → HashedRow X R → Output → Output
      → Result IndexResolver (WriteError F) → Type 0
  WritesEntries row o o' result =
      let xs = row.list in
      let f =
      row_format width.word indices.spec indices.encoding row.spec row.format xs.hash
      xs.load_factor in
      MatchResult result (Serialized width.LIMIT f xs.values o o')
      (OwnOrSerializeFails (length xs.values) xs.load_factor width.MAX_CAPACITY NoOther
      width.LIMIT f xs.values o o')
