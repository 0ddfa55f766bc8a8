-- Existence of archives, of errors and of output.
use Rattle.std.specs.Prelude.{◌≡◌, ◌⊎◌, ℕ, ◌<◌, ◌^◌, List, false}
use Rattle.std.specs.List.{All}
use Rattle.std.specs.Str.{IsUtf8}
use Rattle.rkyv_base.specs.declared.errors.VerifyError.{VerifyError}
use Rattle.rkyv_base.specs.declared.errors.WriteError.{WriteError}
use Rattle.rkyv_base.specs.declared.writer.NoMemory.{NoMemory}
use Rattle.rkyv_dict.specs.declared.form.ArchiveWidth.{ArchiveWidth}
use Rattle.rkyv_dict.specs.declared.form.Form.{Form}
use Rattle.rkyv_dict.specs.Archives.{IsArchive, ValidationFails}
use Rattle.rkyv_dict.specs.Built.{BuildFails, IsBuilt, form_of_pairs}
use Rattle.rkyv_dict.specs.Errors.{is_allocation_failure}
use Rattle.rkyv_dict.specs.Forms.{Pairs, numbers, texts}
use Rattle.rkyv_dict.specs.Script.{lines_of}
use Rattle.rkyv_dict.specs.States.{State, start}
use Rattle.rkyv_dict.specs.Steps.{RunsTo}

-- the keys and values are numbers of 32 bits, or UTF-8
abbrev pub AreNative : Pairs → Type 0
AreNative (numbers pairs) = All (λ pair. (pair.0 < 2 ^ 32) × (pair.1 < 2 ^ 32)) pairs
AreNative (texts pairs) = All (λ pair. IsUtf8 pair.0 × IsUtf8 pair.1) pairs

-- Native pairs have an archive of their form under each load factor. Or their write fails
-- with an error that isn't an allocation failure.
abbrev pub BuildsHaveResult : Type 0
BuildsHaveResult = (bits : ArchiveWidth) (factor : ℕ × ℕ) (pairs : Pairs) → AreNative pairs
    → ((b : List ℕ) × IsBuilt (form_of_pairs bits pairs) factor pairs b)
    ⊎ ((c : WriteError NoMemory) × BuildFails (form_of_pairs bits pairs) factor pairs c
    × (is_allocation_failure c ≡ false))

-- bytes are a valid archive of a form, or fail validation with an error
abbrev pub ChecksHaveResult : Type 0
ChecksHaveResult = (form : Form) (b : List ℕ)
    → IsArchive form b ⊎ ((e : VerifyError) × ValidationFails form b e)

-- The lines of each script have an output, from the first state
-- and from each state with native pairs. The pairs are then native in the last state too.
pub record ScriptsHaveOutput : Type 0 where
  pub from_start : (script : List ℕ) → (output : List ℕ) × (last : State)
      × RunsTo start (lines_of script) output last
  pub from_state : (lines : List (List ℕ)) (s : State) → AreNative s.pairs → (output : List ℕ)
      × (last : State) × RunsTo s lines output last × AreNative last.pairs
