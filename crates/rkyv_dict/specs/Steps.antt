-- The output of a script's lines, and the state after each.
use Rattle.std.specs.Prelude.{◌≡◌, ◌⊎◌, ℕ, false, List, [], ◌∷◌, ◌++◌, Option, Some, None}
use Rattle.rkyv_base.specs.declared.errors.VerifyError.{VerifyError}
use Rattle.rkyv_base.specs.declared.errors.WriteError.{WriteError}
use Rattle.rkyv_base.specs.declared.writer.NoMemory.{NoMemory}
use Rattle.rkyv_dict.specs.Archives.{IsArchive, ValidationFails, entry_count}
use Rattle.rkyv_dict.specs.Built.{BuildFails, IsBuilt, kind_of_pairs}
use Rattle.rkyv_dict.specs.Errors.{is_allocation_failure}
use Rattle.rkyv_dict.specs.Output.{archive_output, audit_line, bad_line, built_line, error_line}
use Rattle.rkyv_dict.specs.Output.{get_line}
use Rattle.rkyv_dict.specs.Output.{hex_line, list_lines, ok_line, verify_error_line}
use Rattle.rkyv_dict.specs.Script.{Request, put_numbers, set_kind, set_load_factor, set_width}
use Rattle.rkyv_dict.specs.Script.{build_archive, check_archive, get_value, put_texts, show_hex}
use Rattle.rkyv_dict.specs.Script.{count_misplaced, list_pairs, request_of}
use Rattle.rkyv_dict.specs.States.{State, emptied, form_of, with_numbers, with_texts}

-- ---- requests whose outcome depends on the bytes

-- `s'` is `s` with the archive of its pairs, and the output is the line of its length.
pub record StepBuilds (s : State) (printed : List ℕ) (s' : State) : Type 0 where
  pub bytes : List ℕ
  pub is_built : IsBuilt (form_of s) s.load_factor s.pairs bytes
  pub prints : printed ≡ built_line bytes
  pub after : s' ≡ record s { archive = Some (record { bytes = bytes; built_of = Some s.pairs }) }

-- No archive is built from the pairs, for a cause that isn't an allocation failure.
-- The output is the line of the cause, and `s'` has no archive.
pub record StepBuildFails (s : State) (printed : List ℕ) (s' : State) : Type 0 where
  pub cause : WriteError NoMemory
  pub applies : BuildFails (form_of s) s.load_factor s.pairs cause
  pub reported : is_allocation_failure cause ≡ false
  pub prints : printed ≡ error_line cause
  pub after : s' ≡ record s { archive = None }

-- `bytes` are a valid archive of the form of `s`, and `s'` keeps them.
-- The output is the line of the number of pairs.
pub record StepChecks (s : State) (bytes printed : List ℕ) (s' : State) : Type 0 where
  pub accepted : IsArchive (form_of s) bytes
  pub prints : printed ≡ ok_line (entry_count (form_of s) bytes)
  pub after : s' ≡ record s { archive = Some (record { bytes = bytes; built_of = None }) }

-- `bytes` fail validation with `error`: the output is its line, and the state is unchanged.
pub record StepCheckFails (s : State) (bytes printed : List ℕ) (s' : State) : Type 0 where
  pub error : VerifyError
  pub applies : ValidationFails (form_of s) bytes error
  pub prints : printed ≡ verify_error_line error
  pub after : s' ≡ s

-- ---- all requests

-- the output is empty, and the state after it is `after`
abbrev pub Sets : State → List ℕ → State → Type 0
Sets after printed s' = (printed ≡ []) × (s' ≡ after)

-- the output is `expected`, and the state is unchanged
abbrev pub Prints : State → List ℕ → List ℕ → State → Type 0
Prints s expected printed s' = (printed ≡ expected) × (s' ≡ s)

-- the output of the request in the state `s` is `printed`, and the state after it is `s'`
abbrev pub StepsTo : State → Request → List ℕ → State → Type 0
StepsTo s (set_kind kind) printed s' = Sets (emptied kind s.bits s) printed s'
StepsTo s (set_width bits) printed s' = Sets (emptied (kind_of_pairs s.pairs) bits s) printed s'
StepsTo s (set_load_factor numerator denominator) printed s' =
    Sets (record s { load_factor = (numerator, denominator) }) printed s'
StepsTo s (put_numbers key value) printed s' =
    Sets (record s { pairs = with_numbers s.pairs key value }) printed s'
StepsTo s (put_texts key value) printed s' =
    Sets (record s { pairs = with_texts s.pairs key value }) printed s'
StepsTo s build_archive printed s' = StepBuilds s printed s' ⊎ StepBuildFails s printed s'
StepsTo s (check_archive bytes) printed s' = StepChecks s bytes printed s'
    ⊎ StepCheckFails s bytes printed s'
StepsTo s show_hex printed s' = Prints s (archive_output hex_line s.archive) printed s'
StepsTo s (get_value key) printed s' =
    Prints s (archive_output (get_line (form_of s) key) s.archive) printed s'
StepsTo s list_pairs printed s' =
    Prints s (archive_output (list_lines (form_of s)) s.archive) printed s'
StepsTo s count_misplaced printed s' =
    Prints s (archive_output (audit_line (form_of s)) s.archive) printed s'

-- ---- lines

-- the request executes; `None`, a bad line, outputs error 10 and leaves the state unchanged
abbrev pub StepsIf : State → Option Request → List ℕ → State → Type 0
StepsIf s None printed s' = Prints s bad_line printed s'
StepsIf s (Some request) printed s' = StepsTo s request printed s'

-- the output of a line; an empty line has none and is skipped
abbrev pub StepsLine : State → List ℕ → List ℕ → State → Type 0
StepsLine s [] printed s' = Sets s printed s'
StepsLine s (b ∷ bs) printed s' = StepsIf s (request_of (kind_of_pairs s.pairs) (b ∷ bs)) printed s'

-- the lines, executed in turn from the state `s`, have the output `output` and end in `s'`
unfoldable pub RunsTo : State → List (List ℕ) → List ℕ → State → Type 0
RunsTo s [] output s' = Sets s output s'
RunsTo s (l ∷ ls) output s' = (printed : List ℕ) × (next : State) × (rest : List ℕ)
    × StepsLine s l printed next × RunsTo next ls rest s' × (output ≡ printed ++ rest)
