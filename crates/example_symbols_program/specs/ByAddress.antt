-- Indexes of symbols: the symbols by ascending address, and their archive.
use Rattle.rkyv_base.specs.declared.element.HasSpec.{Ghosts as Specs}
use Rattle.rkyv_base.specs.declared.width.Word.{Ghosts as Words}
use Rattle.std.specs.Prelude.{◌≡◌, ◌⊎◌, ◌-◌, ℕ, List, MatchResult, Result, length, map}
use Rattle.std.specs.Borrow.{Bor}
use Rattle.std.specs.Int.{w32, w64}
use Rattle.std.specs.declared.vec.Vec.{Vec}
use Rattle.std.proofs.Common.{nat_cmp}
use Rattle.std.specs.List.Sorted.{IsNonDecreasingBy, IsPermutation, IsStableByKey}
use Rattle.rkyv_scan.specs.{U64, fx_hasher, low_halves}
use Rattle.rkyv_base.specs.{AccessFails, ArchiveOf, AtView, ElementSpec, Format, IsAt, IsTextOf}
use Rattle.rkyv_base.specs.{IsValidArchive, ScalarRepresents, ToBytesFails, bytes_of, entry_spec}
use Rattle.rkyv_base.specs.{pos_of, scalar_format, scalar_spec, text_at, text_format, text_spec}
use Rattle.rkyv_base.specs.{unsigned, written_as}
use Rattle.rkyv_base.specs.declared.errors.VerifyError.{VerifyError}
use Rattle.rkyv_base.specs.declared.errors.WriteError.{WriteError}
use Rattle.rkyv_base.specs.declared.errors.WriteError.TheVariants.{Memory}
use Rattle.rkyv_base.specs.declared.view.View.{View}
use Rattle.rkyv_keys.specs.{hash_at, hash_of, one_call, scalar_calls}
use Rattle.rkyv_table.specs.{listed}
use Rattle.rkyv_index.specs.{IndexRepresents, IndexResolver, IsPairOf, index_format, index_spec}
use Rattle.rkyv_index.specs.declared.lists.OrderedPairs.{OrderedPairs}
use Rattle.rkyv_index.specs.declared.map.ArchivedIndexMap.{ArchivedIndexMap}
use Rattle.example_symbols.specs.{Symbols}

-- the spec of an address
abbrev pub address_spec : ElementSpec
address_spec = scalar_spec (unsigned w64)

-- the spec of a name
abbrev pub name_spec : ElementSpec
name_spec = text_spec w32

-- addresses, each with a name
abbrev pub Row : Type 0
Row = List (ℕ × Bor (List ℕ))

-- the symbols, in order, each with its address first
abbrev pub turned : Symbols → Row
turned symbols = map (λ symbol. (symbol.1, symbol.0)) symbols

-- `row` has the entries by ascending address, those of one address in their order
pub record IsAscending (entries row : Row) : Type 0 where
  pub permutation : IsPermutation entries row
  pub sorted : IsNonDecreasingBy (λ entry. entry.0) row
  pub stable : IsStableByKey (λ entry. entry.0) nat_cmp entries row

-- the pairs of an index
abbrev pub Listed : Type 0
Listed = OrderedPairs ℕ (Bor (List ℕ))

-- the spec of an index's header
abbrev pub index_header : ElementSpec
index_header = index_spec w32 (entry_spec address_spec name_spec)

-- the index map at `p` in `b` represents the pairs
abbrev pub PairsRepresentAt : List ℕ → ℕ → Listed → Type 0
PairsRepresentAt b p pairs =
    IndexRepresents w32 address_spec name_spec (ScalarRepresents (unsigned w64))
    (IsTextOf w32 (λ name. name.now))
    (hash_at (fx_hasher low_halves) (scalar_calls (unsigned w64) U64)) (7, 8) b p pairs.0.items

-- the format of the pairs of an index
abbrev pub pairs_format : Format Listed IndexResolver
pairs_format = written_as (λ pairs. pairs.0.items) (listed 4_294_967_295 (7, 8)
    (index_format w32 (scalar_spec (unsigned w32)) (unsigned w32) address_spec name_spec
    (scalar_format (unsigned w64)) (written_as (λ name. name.now) (text_format w32))
    (hash_of (fx_hasher low_halves) (one_call U64)) (7, 8)))

-- `index` is the archive of the symbols by ascending address
abbrev pub IsIndexOf : Symbols → List ℕ → Type 0
IsIndexOf symbols index = (pairs : Listed) × IsAscending (turned symbols) pairs.0.items
    × ArchiveOf 4_294_967_295 index_header PairsRepresentAt pairs_format pairs index

-- no index is written: the sorted list fails to allocate, or the write fails with `e`
abbrev pub IndexFails : {F : Type 0} → Symbols → WriteError F → Type 0
IndexFails symbols e = (e ≡ Memory)
    ⊎ ((pairs : Listed) × IsAscending (turned symbols) pairs.0.items
    × ToBytesFails 4_294_967_295 index_header pairs_format pairs e)

-- `result` is the archive of the symbols by ascending address, or the error of its write
abbrev pub IndexResult : {F Z : Type 0} → Symbols → Result (Vec ℕ Z) (WriteError F) → Type 0
IndexResult symbols result =
    MatchResult result (λ index. IsIndexOf symbols index.items) (IndexFails symbols)

-- `result` is the index map at the root of `index`, which is valid, or the first validation error
abbrev pub OpensIndex : {K V H W : Type 0} {ks : Specs K} {vs : Specs V} {wt : Words W}
    → ElementSpec → Bor (List ℕ)
    → Result (ArchivedIndexMap K V H W ks vs wt) VerifyError → Type 0
OpensIndex s index result = MatchResult result
    (λ map. IsValidArchive 4_294_967_295 s index.now
    × IsAt map.view index (length index.now - s.size))
    (AccessFails 4_294_967_295 s index.now)

-- `entry` is the address and the name at index `i` of an index map
abbrev pub IsEntryOf : {K V H W : Type 0} {ks : Specs K} {vs : Specs V} {wt : Words W}
    → ArchivedIndexMap K V H W ks vs wt → ℕ
    → ℕ × Bor (List ℕ) → Type 0
IsEntryOf {K} {V} index i entry = (pair : View K × View V)
    × IsPairOf index i pair
    × AtView (ScalarRepresents (unsigned w64)) pair.0 entry.0
    × (entry.1.now ≡ text_at w32 (bytes_of pair.1) (pos_of pair.1))
