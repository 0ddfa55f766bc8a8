-- Tables of symbols: validity, the list that a table represents, and the address of a name.
use Rattle.std.specs.Prelude.{ℕ, ◌-◌, List, Option, length}
use Rattle.std.specs.Int.{w64}
use Rattle.rkyv_base.specs.{AccessFails, ElementSpec, IsValidArchive, narrow_limit, unsigned}
use Rattle.rkyv_base.specs.declared.errors.VerifyError.{VerifyError}
use Rattle.rkyv_base.specs.declared.errors.WriteError.{WriteError}
use Rattle.rkyv_collections.specs.{IsTextMapOf, TextMapFails, TextMapRepresents, TextPairs}
use Rattle.rkyv_collections.specs.{text_found, text_map_spec}

-- names, each with its address
abbrev pub Symbols : Type 0
Symbols = TextPairs ℕ

-- the spec of a table's header
abbrev pub header_spec : ElementSpec
header_spec = text_map_spec (unsigned w64)

-- `table` is a valid table
unfoldable pub IsTable : List ℕ → Type 0
IsTable table = IsValidArchive narrow_limit header_spec table

-- `table` represents the symbols
unfoldable pub Represents : List ℕ → Symbols → Type 0
Represents table symbols =
    TextMapRepresents (unsigned w64) (7, 8) table (length table - header_spec.size) symbols

-- `table` is the table of the symbols: valid, it represents them, and it has no other bytes
unfoldable pub IsTableOf : Symbols → List ℕ → Type 0
IsTableOf symbols table = IsTextMapOf (unsigned w64) symbols table

-- `e` is the first error of the validation of `table`
unfoldable pub ValidationFails : List ℕ → VerifyError → Type 0
ValidationFails table e = AccessFails narrow_limit header_spec table e

-- the write of the symbols fails with `e`
unfoldable pub TableFails : {F : Type 0} → Symbols → WriteError F → Type 0
TableFails symbols e = TextMapFails (unsigned w64) symbols e

-- the address that a lookup of `name` finds in any valid table
unfoldable pub address_found : List ℕ → List ℕ → Option ℕ
address_found name table = text_found (unsigned w64) name table
