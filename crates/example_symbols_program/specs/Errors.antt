-- Errors of the program, by their causes.
use Rattle.std.specs.Prelude.{List, string_bytes, ℕ, ◌≡◌}
use Rattle.std.specs.declared.io.Error.{Error}
use Rattle.rkyv_base.specs.declared.errors.VerifyError.{VerifyError}
use Rattle.rkyv_base.specs.declared.errors.WriteError.{WriteError}
use Rattle.rkyv_base.specs.declared.writer.NoMemory.{NoMemory}
use Rattle.example_symbols.specs.{ValidationFails}
use Rattle.example_symbols_program.specs.declared.errors.SymbolsError.{SymbolsError}
use Rattle.example_symbols_program.specs.declared.errors.SymbolsError.TheVariants.{File, Input}
use Rattle.example_symbols_program.specs.declared.errors.SymbolsError.TheVariants.{Invalid, Memory}
use Rattle.example_symbols_program.specs.declared.errors.SymbolsError.TheVariants.{Write}

-- the error of the program for a failed read or write of the file `name`, or a failed allocation
abbrev pub IsFileError : List ℕ → Error → SymbolsError → Type 0
IsFileError name cause (File file error) = (string_bytes file ≡ name) × (cause ≡ error)
IsFileError _ _ (Memory _) = Unit {0}
IsFileError _ _ _ = ⊥

-- the error of the program for some failed read or write of the file `name`, or a failed allocation
abbrev pub FileFails : List ℕ → SymbolsError → Type 0
FileFails name e = (cause : Error) × IsFileError name cause e

-- the error of the program for a failed read of standard input
abbrev pub IsInputError : SymbolsError → Type 0
IsInputError e = (cause : Error) × (e ≡ Input cause)

-- the error of the program for symbols that can't be archived for the file `name`, or a failed
-- allocation
abbrev pub IsWriteError : List ℕ → WriteError NoMemory → SymbolsError → Type 0
IsWriteError name cause (Write file error) = (string_bytes file ≡ name) × (cause ≡ error)
IsWriteError _ _ (Memory _) = Unit {0}
IsWriteError _ _ _ = ⊥

-- the error of the program for an invalid archive in the file `name`, or a failed allocation
abbrev pub IsValidationError : List ℕ → VerifyError → SymbolsError → Type 0
IsValidationError name cause (Invalid file error) = (string_bytes file ≡ name) × (cause ≡ error)
IsValidationError _ _ (Memory _) = Unit {0}
IsValidationError _ _ _ = ⊥

-- the error of the program for the first fault of `table` in the file `name`, or a failed
-- allocation
abbrev pub RejectsTable : List ℕ → List ℕ → SymbolsError → Type 0
RejectsTable name table e =
    (cause : VerifyError) × ValidationFails table cause × IsValidationError name cause e
