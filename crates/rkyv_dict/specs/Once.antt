-- Uniqueness of archives, of errors and of output.
use Rattle.std.specs.Prelude.{◌≡◌, ℕ, List, false}
use Rattle.rkyv_base.specs.declared.errors.VerifyError.{VerifyError}
use Rattle.rkyv_base.specs.declared.errors.WriteError.{WriteError}
use Rattle.rkyv_base.specs.declared.writer.NoMemory.{NoMemory}
use Rattle.rkyv_dict.specs.declared.form.Form.{Form}
use Rattle.rkyv_dict.specs.Archives.{IsArchive, ValidationFails}
use Rattle.rkyv_dict.specs.Built.{BuildFails, IsBuilt}
use Rattle.rkyv_dict.specs.Errors.{is_allocation_failure, write_error_text}
use Rattle.rkyv_dict.specs.Forms.{Pairs}
use Rattle.rkyv_dict.specs.States.{State}
use Rattle.rkyv_dict.specs.Steps.{RunsTo}

-- the pairs have at most one archive of a form under a load factor
abbrev pub BuildsAreOne : Type 0
BuildsAreOne = (form : Form) (factor : ℕ × ℕ) (pairs : Pairs) (a b : List ℕ)
    → IsBuilt form factor pairs a → IsBuilt form factor pairs b → a ≡ b

-- bytes that fail validation are no valid archive, and fail with one error only
abbrev pub ChecksAreOne : Type 0
ChecksAreOne = (form : Form) (b : List ℕ) (e : VerifyError) → ValidationFails form b e
    → (IsArchive form b → ⊥) × ((d : VerifyError) → ValidationFails form b d → e ≡ d)

-- Uniqueness of the error of a failed build, except for allocation failures.
-- Pairs that have an archive have no such error.
pub record BuildErrorsAreOne : Type 0 where
  pub causes : (form : Form) (factor : ℕ × ℕ) (pairs : Pairs) (c d : WriteError NoMemory)
      → BuildFails form factor pairs c → BuildFails form factor pairs d
      → is_allocation_failure c ≡ false → is_allocation_failure d ≡ false
      → write_error_text c ≡ write_error_text d
  pub built : (form : Form) (factor : ℕ × ℕ) (pairs : Pairs) (b : List ℕ) (c : WriteError NoMemory)
      → IsBuilt form factor pairs b → BuildFails form factor pairs c
      → is_allocation_failure c ≡ false → ⊥

-- the lines of a script have one output from a state, and end in one state
abbrev pub ScriptsAreOne : Type 0
ScriptsAreOne = (lines : List (List ℕ)) (s : State) (output output' : List ℕ) (last last' : State)
    → RunsTo s lines output last → RunsTo s lines output' last'
    → (output ≡ output') × (last ≡ last')
