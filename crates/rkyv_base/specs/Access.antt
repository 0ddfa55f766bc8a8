-- The conditions under which an archive is accepted, and the errors otherwise.
use Rattle.std.specs.Prelude.{MatchResult, Result, ◌≡◌, ◌≢◌, ℕ, ◌-◌, ◌%◌, ◌<◌, ◌≤◌, ◌⊎◌, List}
use Rattle.std.specs.Prelude.{length, pos, ◌-ℤ◌}
use Rattle.rkyv_base.specs.declared.errors.VerifyError.{VerifyError}
use Rattle.rkyv_base.specs.declared.errors.VerifyError.TheVariants.{OutOfRange, Unaligned}
use Rattle.rkyv_base.specs.ElementSpecs.{ElementSpec, ValidAt}
use Rattle.rkyv_base.specs.Layout.{narrow_limit, wide_limit}
use Rattle.rkyv_base.specs.Members.{ElementMembers}

-- `b`: archive within `limit`, with a valid and aligned root at its end
pub record IsValidArchive (limit : ℕ) (s : ElementSpec) (b : List ℕ) : Type 0 where
  pub within : length b ≤ limit
  pub inside : s.size ≤ length b
  pub aligned : (length b - s.size) % s.align ≡ 0
  pub valid : ValidAt s b (length b - s.size)

-- `b`: archive within `limit` of the native value. Its root is valid and represents the value.
-- `element`: element of the root, and the native values that its values represent
pub record IsArchive {V : Type 0} (limit : ℕ) (element : ElementMembers V) (b : List ℕ) (value : V)
    : Type 0 where
  pub accepted : IsValidArchive limit element.spec b
  pub represents : element.represents b (length b - element.spec.size) value

-- `b`: narrow archive of the native value
abbrev pub IsNarrowArchive : {V : Type 0} → ElementMembers V → List ℕ → V → Type 0
IsNarrowArchive element b value = IsArchive narrow_limit element b value

-- `b`: wide archive of the native value
abbrev pub IsWideArchive : {V : Type 0} → ElementMembers V → List ℕ → V → Type 0
IsWideArchive element b value = IsArchive wide_limit element b value

-- `e`: first fault of the archive `b`: its length, the alignment of its root, or the root itself
abbrev pub AccessFails : ℕ → ElementSpec → List ℕ → VerifyError → Type 0
AccessFails limit s b e =
    (((length b < s.size) ⊎ (limit < length b))
    × (e ≡ OutOfRange (pos (length b) -ℤ pos s.size) s.size))
    ⊎ ((s.size ≤ length b) × (length b ≤ limit) × ((length b - s.size) % s.align ≢ 0)
    × (e ≡ Unaligned (length b - s.size) s.align))
    ⊎ ((s.size ≤ length b) × (length b ≤ limit) × ((length b - s.size) % s.align ≡ 0)
    × s.fails b (length b - s.size) 0 (length b - s.size) e)

-- `result`: result of validating `b` and writing at its root, `c`: bytes after that.
-- `Writes r b p c`: a write at `p` changed `b` to `c` and returned `r`. On an error `c` is `b`
abbrev pub AccessWrites : {R : Type 0} → ℕ → ElementSpec → (R → List ℕ → ℕ → List ℕ → Type 0)
    → List ℕ → List ℕ → Result R VerifyError → Type 0
AccessWrites limit s Writes b c result = MatchResult result
    (λ r. IsValidArchive limit s b × Writes r b (length b - s.size) c)
    (λ e. AccessFails limit s b e × (c ≡ b))

-- `result`: `Ok` if and only if `b` is an archive within `limit` with a valid root. An error is
-- its first fault
abbrev pub Opens : {R : Type 0} → ℕ → ElementSpec → List ℕ → Result R VerifyError → Type 0
Opens limit s b result = MatchResult result (λ _. IsValidArchive limit s b) (AccessFails limit s b)

-- the same of a narrow archive
abbrev pub OpensNarrow : {R : Type 0} → ElementSpec → List ℕ → Result R VerifyError → Type 0
OpensNarrow s b result = Opens narrow_limit s b result

-- the same of a wide archive
abbrev pub OpensWide : {R : Type 0} → ElementSpec → List ℕ → Result R VerifyError → Type 0
OpensWide s b result = Opens wide_limit s b result
