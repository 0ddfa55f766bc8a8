-- The range of bytes for the parts of a value.
use Rattle.std.specs.Prelude.{◌≡◌, ◌≢◌, ℕ, ◌+◌, ◌%◌, ◌≤◌, ◌⊎◌, ℤ, pos, ◌+ℤ◌, ◌<ℤ◌}
use Rattle.rkyv_base.specs.declared.errors.VerifyError.{VerifyError}
use Rattle.rkyv_base.specs.declared.errors.VerifyError.TheVariants.{OutOfRange, Unaligned}

-- `at`: position of an aligned part of `size` bytes between `lo` and `hi`, which begins at `begin`
pub record PartIn (begin : ℤ) (size align lo hi at : ℕ) : Type 0 where
  pub begins : pos at ≡ begin
  pub above : lo ≤ at
  pub below : at + size ≤ hi
  pub aligned : at % align ≡ 0

-- `e`: fault of a part that isn't between `lo` and `hi`, or else isn't aligned
abbrev pub PartFails : ℤ → ℕ → ℕ → ℕ → ℕ → VerifyError → Type 0
PartFails begin size align lo hi e =
    (((begin <ℤ pos lo) ⊎ (pos hi <ℤ (begin +ℤ pos size))) × (e ≡ OutOfRange begin size))
    ⊎ ((at : ℕ) × (pos at ≡ begin) × (lo ≤ at) × (at + size ≤ hi) × (at % align ≢ 0)
    × (e ≡ Unaligned at align))
