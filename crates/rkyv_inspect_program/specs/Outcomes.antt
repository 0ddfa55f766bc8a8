-- The exit statuses of the program's outcomes.
use Rattle.std.specs.Prelude.{Err, Ok, Result, ℕ}
use Rattle.rkyv_inspect_program.specs.declared.errors.ProgramError.{ProgramError}
use Rattle.rkyv_inspect_program.specs.declared.errors.ProgramError.TheVariants.{Container, Invalid}
use Rattle.rkyv_inspect_program.specs.declared.outcome.Outcome.{Outcome}
use Rattle.rkyv_inspect_program.specs.declared.outcome.Outcome.TheVariants.{Complete, Misused}

-- the exit status of an outcome: 1 if the bytes aren't a container or an archive, 2 if the command
-- line is wrong, 3 after another error
abbrev pub status_of : Result Outcome ProgramError → ℕ
status_of (Ok Complete) = 0
status_of (Ok Misused) = 2
status_of (Err (Container _ _)) = 1
status_of (Err (Invalid _ _)) = 1
status_of (Err _) = 3
