-- The outcome of one stride of a lookup.
use Rattle.std.specs.Prelude.{◌≡◌, ℕ, ◌+◌, ◌%◌, ◌<◌, ⊤, List, Bool, true, false, length}
use Rattle.std.specs.Prelude.{None, Some, slice_index}
use Rattle.std.specs.List.{find}
use Rattle.rkyv_table.specs.Controls.Finding.{ComparesByBucket}
use Rattle.rkyv_table.specs.declared.controls.find.StrideOutcome.{StrideOutcome}
use Rattle.rkyv_table.specs.declared.controls.find.StrideOutcome.TheVariants.{Accepted, HasEmpty}
use Rattle.rkyv_table.specs.declared.controls.find.StrideOutcome.TheVariants.{Continue}

-- `b`: bucket of a marked index of the group that begins at `p`
abbrev pub IsMarked : ℕ → ℕ → List ℕ → ℕ → Type 0
IsMarked p cap indices b = (k : ℕ) × (k < length indices) × (b ≡ (p + slice_index indices k) % cap)

-- `b`: bucket of a full control byte of the stride that begins at `p`
abbrev pub IsFullInStride : List ℕ → ℕ → ℕ → ℕ → Type 0
IsFullInStride stride p cap b =
    (q : ℕ) × (q < 16) × (slice_index stride q < 128) × (b ≡ (p + q) % cap)

-- an accepted bucket is one of a full control byte of the stride
abbrev pub IsFullIfAccepted : List ℕ → ℕ → ℕ → StrideOutcome → Type 0
IsFullIfAccepted stride p cap (Accepted b) = IsFullInStride stride p cap b
IsFullIfAccepted stride p cap HasEmpty = ⊤
IsFullIfAccepted stride p cap Continue = ⊤

-- the first accepted bucket of `buckets`, the candidates of the stride; without one, `HasEmpty`
-- if the stride has an empty control byte (`empty`), else `Continue`
abbrev pub IsStrideOutcome : List ℕ → Bool → (ℕ → Bool) → StrideOutcome → Type 0
IsStrideOutcome buckets empty accept (Accepted b) = find accept buckets ≡ Some b
IsStrideOutcome buckets empty accept HasEmpty = (find accept buckets ≡ None) × (empty ≡ true)
IsStrideOutcome buckets empty accept Continue = (find accept buckets ≡ None) × (empty ≡ false)

-- `outcome`: outcome of the stride with the candidates `buckets`, if the comparison depends only
-- on the bucket
abbrev pub SeesFirst : (ℕ → Bool → Type 0) → (ℕ → Type 0) → List ℕ → Bool → StrideOutcome → Type 0
SeesFirst post callable buckets empty outcome =
    (accept : ℕ → Bool) → ComparesByBucket post callable accept
    → IsStrideOutcome buckets empty accept outcome

-- an accepted bucket is one for which the comparison returned `true`
abbrev pub IsAcceptedBy : (ℕ → Bool → Type 0) → StrideOutcome → Type 0
IsAcceptedBy post (Accepted b) = post b true
IsAcceptedBy post HasEmpty = ⊤
IsAcceptedBy post Continue = ⊤
