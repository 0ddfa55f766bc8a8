-- Writing with a limit.
use Rattle.std.specs.Prelude.{◌≡◌, ℕ, ◌+◌, ◌<◌, ◌⊎◌, List, length, take}
use Rattle.rkyv_base.specs.declared.limit.LimitFault.{LimitFault}
use Rattle.rkyv_base.specs.declared.limit.LimitFault.TheVariants.{Full, Inner}
use Rattle.rkyv_base.specs.declared.limit.LimitWriter.{LimitWriter}
use Rattle.rkyv_base.specs.Writing.{Appends, Faults, Output}

-- the inner writer of the writer `w`
abbrev pub inner_writer : {W : Type 0} → LimitWriter W → W
inner_writer w = w.inner

-- the number of bytes that are left of the limit of the writer `w`
abbrev pub bytes_left : {W : Type 0} → LimitWriter W → ℕ
bytes_left w = w.left

-- the count of failures of the writer `w`
abbrev pub failure_count : {W : Type 0} → LimitWriter W → ℕ
failure_count w = w.failures

-- the output of a writer with a limit: the inner output, with a count of failures of its own
abbrev pub limited : {W : Type 0} → (W → Output) → LimitWriter W → Output
limited output w = record (output w.inner) { failures = w.failures }

-- all bytes that the inner writer appended count against the limit
abbrev pub Counts : {W : Type 0} → (W → Output) → LimitWriter W → LimitWriter W → Type 0
Counts output w w' = w'.left + length (output w'.inner).bytes ≡ w.left + length
    (output w.inner).bytes

-- the inner writer appended the bytes, and neither writer counts a failure
abbrev pub InnerTook : {W : Type 0} → (W → Output) → LimitWriter W → LimitWriter W → List ℕ → Type 0
InnerTook output w w' bytes =
    Appends (output w.inner) (output w'.inner) bytes × (w'.failures ≡ w.failures)

-- the inner writer failed on the bytes, both writers count it, and the fault is `Inner`
abbrev pub InnerFaults : {W F : Type 0} → (W → Output) → LimitWriter W → LimitWriter W → List ℕ
    → LimitFault F → Type 0
InnerFaults output w w' bytes Full = ⊥
InnerFaults output w w' bytes (Inner fault) = Faults (output w.inner) (output w'.inner) bytes
    × Faults (limited output w) (limited output w') bytes

-- `Full`: the piece doesn't fit, and the inner writer appended the front that does.
-- `Inner`: the inner writer failed on the front that fits
abbrev pub LimitWriteFails : {W F : Type 0} → (W → Output) → LimitWriter W → LimitWriter W → List ℕ
    → LimitFault F → Type 0
LimitWriteFails output w w' bytes Full =
    (w.left < length bytes) × Appends (output w.inner) (output w'.inner) (take w.left bytes)
LimitWriteFails output w w' bytes (Inner fault) =
    ((0 < w.left) ⊎ (length bytes ≡ 0)) × Faults (output w.inner) (output w'.inner)
    (take w.left bytes)
