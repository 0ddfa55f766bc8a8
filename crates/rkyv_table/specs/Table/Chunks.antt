-- Chunks, from which several values are appended as one piece.
use Rattle.std.specs.Prelude.{◌≡◌, ℕ, ◌+◌, ◌*◌, ◌<◌, ◌≤◌, ◌⊎◌, List, MatchResult, Result, length}
use Rattle.std.specs.Prelude.{take}
use Rattle.rkyv_base.specs.{AppendFails, Appended, Appends, Output}
use Rattle.rkyv_base.specs.declared.errors.WriteError.{WriteError}

-- a value of `size` bytes fits in a chunk, and `count` of them from `pos` on within the limit
abbrev pub FitInChunks : ℕ → ℕ → ℕ → ℕ → Type 0
FitInChunks limit count size pos = (size ≤ 1024) × (pos + count * size ≤ limit)

-- `result`: the bytes `filled` were appended, or there are some, and it is the error of appending
abbrev pub AppendsFilled : {T F : Type 0} → ℕ → List ℕ → Output → Output → Result T (WriteError F)
    → Type 0
AppendsFilled limit filled o o' result = MatchResult result (λ _. Appends o o' filled)
    (λ e. (0 < length filled) × AppendFails limit filled o o' e)

-- the first `end` bytes of `chunk` were appended within the limit, if there was no room after them
-- for `size` bytes. `at`: the number of bytes of `chunk` that are not appended yet
abbrev pub MadeRoom : ℕ → ℕ → ℕ → List ℕ → Output → Output → ℕ → Type 0
MadeRoom limit size end chunk o o' at = (at + size ≤ length chunk)
    × (((at ≡ end) × (o' ≡ o))
    ⊎ ((at ≡ 0) × (length chunk < end + size) × Appended limit (take end chunk) o o'))

-- `result`: the number of bytes of `chunk` that are not appended yet, or the error of appending
abbrev pub MakesRoom : {F : Type 0} → ℕ → ℕ → ℕ → List ℕ → Output → Output
    → Result ℕ (WriteError F) → Type 0
MakesRoom limit size end chunk o o' result = MatchResult result
    (MadeRoom limit size end chunk o o')
    (λ e. (length chunk < end + size) × AppendFails limit (take end chunk) o o' e)
