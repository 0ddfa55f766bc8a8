-- The comparison of the values at two positions.
use Rattle.std.specs.Prelude.{◌≡◌, ℕ, Bool, true, List}
use Rattle.std.specs.Bool.{Decides}
use Rattle.rkyv_base.specs.{ElementSpec, ValidAt}

-- a comparison of the value at a position of some bytes with one at a position of others
abbrev pub Comparison : Type 0
Comparison = List ℕ → ℕ → List ℕ → ℕ → Bool

-- for each two values, both comparisons have the same result
abbrev pub SameComparison : Comparison → Comparison → Type 0
SameComparison same other = (b : List ℕ) (p : ℕ) (c : List ℕ) (q : ℕ) → same b p c q ≡ other b p c q

-- the comparison `same` is an equivalence of valid values
pub record IsEquivalence (s : ElementSpec) (same : Comparison) : Type 0 where
  pub reflexive : (b : List ℕ) (p : ℕ) → ValidAt s b p → same b p b p ≡ true
  pub symmetric : (b c : List ℕ) (p q : ℕ) → ValidAt s b p → ValidAt s c q → same b p c q ≡ true
      → same c q b p ≡ true
  pub transitive : (b c d : List ℕ) (p q r : ℕ) → ValidAt s b p → ValidAt s c q → ValidAt s d r
      → same b p c q ≡ true → same c q d r ≡ true → same b p d r ≡ true

-- `equal` returns `true` if and only if both values are the same
abbrev pub DecidesEquality : {V : Type 0} → (V → V → Bool) → Type 0
DecidesEquality {V = V} equal = (v w : V) → Decides (equal v w) (v ≡ w)

-- each value that the archived one represents is equal to each value that it equals
abbrev pub EqualsUniquely : {V : Type 0} → ElementSpec → (List ℕ → ℕ → V → Type 0)
    → (List ℕ → ℕ → V → Type 0) → (V → V → Bool) → Type 0
EqualsUniquely {V = V} s represents equals equal =
    (v x : V) (b : List ℕ) (p : ℕ) → ValidAt s b p → represents b p v → equals b p x
    → equal v x ≡ true

-- the values that one archived value represents are equal
abbrev pub RepresentsUniquely : {V : Type 0} → ElementSpec → (List ℕ → ℕ → V → Type 0)
    → (V → V → Bool) → Type 0
RepresentsUniquely s represents equal = EqualsUniquely s represents represents equal
