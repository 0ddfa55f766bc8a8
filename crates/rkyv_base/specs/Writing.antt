-- The output of a writer, and the results of one write.
use Rattle.std.specs.Prelude.{List, MatchResult, Result, [], length, min, replicate, take, ℕ, ◌%◌}
use Rattle.std.specs.Prelude.{◌++◌, ◌+◌, ◌-◌, ◌<◌, ◌^◌, ◌≡◌, ◌≤◌, ◌⊎◌}
use Rattle.rkyv_base.specs.declared.errors.WriteError.{WriteError}
use Rattle.rkyv_base.specs.declared.errors.WriteError.TheVariants.{CapacityTooLarge}
use Rattle.rkyv_base.specs.declared.errors.WriteError.TheVariants.{DistanceTooLarge}
use Rattle.rkyv_base.specs.declared.errors.WriteError.TheVariants.{InvalidLoadFactor}
use Rattle.rkyv_base.specs.declared.errors.WriteError.TheVariants.{IteratorLengthMismatch, Memory}
use Rattle.rkyv_base.specs.declared.errors.WriteError.TheVariants.{PositionTooLarge, Refused}
use Rattle.rkyv_base.specs.declared.errors.WriteError.TheVariants.{TextTooLong, Writer}

-- the output of a writer. `start`: position of its first byte, `bytes`: its bytes,
-- `failures`: count of failed writes
pub record Output : Type 0 where
  pub start : ℕ
  pub bytes : List ℕ
  pub failures : ℕ

-- the position after the last byte of the output `o`
abbrev pub end_of : Output → ℕ
end_of o = o.start + length o.bytes

-- the output of a writer to memory, from its bytes and its count of failures
abbrev pub vec_output : List ℕ × ℕ → Output
vec_output w = record { start = 0; bytes = w.0; failures = w.1 }

-- `o'`: output `o`, followed by `part`
pub record Extends (o o' : Output) (part : List ℕ) : Type 0 where
  pub start : o'.start ≡ o.start
  pub bytes : o'.bytes ≡ o.bytes ++ part

-- `part` was appended to `o`, and no write failed
pub record Appends (o o' : Output) (part : List ℕ) : Type 0 where
  pub start : o'.start ≡ o.start
  pub bytes : o'.bytes ≡ o.bytes ++ part
  pub failures : o'.failures ≡ o.failures

-- one more failure is counted, up to the greatest count
abbrev pub FailedOnce : Output → Output → Type 0
FailedOnce o o' = o'.failures ≡ min (o.failures + 1) (2 ^ 64 - 1)

-- a failed write: a front of the bytes was appended, and one more failure is counted
pub record Faults (o o' : Output) (bytes : List ℕ) : Type 0 where
  pub front : ℕ
  pub appended : Extends o o' (take front bytes)
  pub counted : FailedOnce o o'

-- the reason for which a value can't be written, or an allocation failure
pub data WriteFailure : Type 0 where
  load_factor : ℕ → ℕ → WriteFailure
  mismatch : ℕ → ℕ → WriteFailure
  capacity : ℕ → WriteFailure
  distance : WriteFailure
  long_text : WriteFailure
  no_memory : WriteFailure
  refused : ℕ → WriteFailure

-- the next step of a write: a piece to be appended, or a failure
pub data Step : Type 0 where
  piece : List ℕ → Step
  failure : WriteFailure → Step

-- `part` is empty, or it ends within the limit
abbrev pub Within : ℕ → Output → List ℕ → Type 0
Within limit o' part = (part ≡ []) ⊎ (end_of o' ≤ limit)

-- `front` was appended within the limit, no write failed, and `step` is next
abbrev pub Reached : ℕ → (List ℕ → Step → Type 0) → Output → Output → List ℕ → Step → Type 0
Reached limit next o o' front step = Within limit o' front × (o'.failures ≡ o.failures)
    × next front step

-- one write failed, of the next piece `bytes` after `before`, which fits within the limit.
-- `front`: `before`, followed by a front of that piece
pub record FaultsDuring (limit : ℕ) (next : List ℕ → Step → Type 0) (o o' : Output)
    (front : List ℕ) : Type 0 where
  pub before : List ℕ
  pub bytes : List ℕ
  pub is_next : next before (piece bytes)
  pub fits : end_of o + length before + length bytes ≤ limit
  pub written_len : ℕ
  pub is : front ≡ before ++ take written_len bytes
  pub counted : FailedOnce o o'

-- the condition of an error after `front` was appended. `next front step`: `step` follows `front`.
-- A distance fails behind a piece that was appended, so within the limit even if `front` is empty
abbrev pub CauseApplies : {F : Type 0} → ℕ → (List ℕ → Step → Type 0) → Output → Output → List ℕ
    → WriteError F → Type 0
CauseApplies limit next o o' front (InvalidLoadFactor n d) =
    Reached limit next o o' front (failure (load_factor n d))
CauseApplies limit next o o' front (IteratorLengthMismatch m) =
    Reached limit next o o' front (failure (mismatch m.expected m.actual))
CauseApplies limit next o o' front (CapacityTooLarge n) =
    Reached limit next o o' front (failure (capacity n))
CauseApplies limit next o o' front PositionTooLarge = (bytes : List ℕ)
    × Reached limit next o o' front (piece bytes) × (limit < end_of o' + length bytes)
CauseApplies limit next o o' front DistanceTooLarge =
    Reached limit next o o' front (failure distance) × (end_of o' ≤ limit)
CauseApplies limit next o o' front TextTooLong = Reached limit next o o' front (failure long_text)
CauseApplies limit next o o' front (Writer f) = FaultsDuring limit next o o' front
CauseApplies limit next o o' front Memory = Reached limit next o o' front (failure no_memory)
CauseApplies limit next o o' front (Refused n) = Reached limit next o o' front (failure (refused n))

-- a write failed with `e`: `front` was appended to the unchanged earlier bytes,
-- and the condition of `e` is met
pub record WriteFails {F : Type 0} (limit : ℕ) (next : List ℕ → Step → Type 0) (o o' : Output)
    (e : WriteError F) : Type 0 where
  pub front : List ℕ
  pub kept : Extends o o' front
  pub cause : CauseApplies limit next o o' front e

-- `one` is the only step
abbrev pub Only : Step → List ℕ → Step → Type 0
Only one front step = (front ≡ []) × (step ≡ one)

-- one piece was appended, within the limit
abbrev pub Appended : ℕ → List ℕ → Output → Output → Type 0
Appended limit bytes o o' = Appends o o' bytes × (end_of o' ≤ limit)

-- appending one piece failed with `e`
abbrev pub AppendFails : {F : Type 0} → ℕ → List ℕ → Output → Output → WriteError F → Type 0
AppendFails limit bytes o o' e = WriteFails limit (Only (piece bytes)) o o' e

-- `result`: result of appending one piece
abbrev pub AppendsPiece : {F : Type 0} → ℕ → List ℕ → Output → Output
    → Result (Unit {0}) (WriteError F) → Type 0
AppendsPiece limit bytes o o' result =
    MatchResult result (λ _. Appended limit bytes o o') (AppendFails limit bytes o o')

-- the number of zeros from position `p` to the next multiple of `a`
abbrev pub padding : ℕ → ℕ → ℕ
padding a p = (a - p % a) % a

-- `n` bytes that are 0
abbrev pub zeros : ℕ → List ℕ
zeros n = replicate n 0

-- zeros were appended up to the position `p`, which is the next multiple of `a`
abbrev pub Aligned : ℕ → ℕ → Output → Output → ℕ → Type 0
Aligned limit a o o' p = Appends o o' (zeros (padding a (end_of o))) × (p ≡ end_of o') × (p ≤ limit)
    × (p % a ≡ 0)

-- `result`: the position after the zeros up to a multiple of `a`, or the error
abbrev pub Aligns : {F : Type 0} → ℕ → ℕ → Output → Output → Result ℕ (WriteError F) → Type 0
Aligns limit a o o' result = MatchResult result (Aligned limit a o o')
    (AppendFails limit (zeros (padding a (end_of o))) o o')
