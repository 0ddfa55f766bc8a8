-- Equality of specs, encodings, representations and formats, at each argument.
use Rattle.std.specs.Prelude.{◌≡◌, ℕ, ◌↔◌, List}
use Rattle.rkyv_base.specs.declared.errors.VerifyError.{VerifyError}
use Rattle.rkyv_base.specs.ElementSpecs.{ElementSpec}
use Rattle.rkyv_base.specs.Formats.{Format}
use Rattle.rkyv_base.specs.Scalar.{Encoding}
use Rattle.rkyv_base.specs.Writing.{Step}

-- the size, the alignment, the valid bytes and the faults of both specs are the same
pub record SameSpec (s t : ElementSpec) : Type 0 where
  pub size : s.size ≡ t.size
  pub align : s.align ≡ t.align
  pub is_valid : (b : List ℕ) (p lo hi l : ℕ) → s.is_valid b p lo hi l ↔ t.is_valid b p lo hi l
  pub fails : (b : List ℕ) (p lo hi : ℕ) (e : VerifyError)
      → s.fails b p lo hi e ↔ t.fails b p lo hi e

-- the numbers have the same width, each value the same number, and each number the same value
pub record SameEncoding {V : Type 0} (e f : Encoding V) : Type 0 where
  pub word : e.word ≡ f.word
  pub code : (v : V) → e.code v ≡ f.code v
  pub value : (n : ℕ) → e.value n ≡ f.value n
  pub is_code : (n : ℕ) → e.IsCode n ↔ f.IsCode n

-- the bytes at a position represent the same values under both
abbrev pub SameValues : {V : Type 0} → (List ℕ → ℕ → V → Type 0) → (List ℕ → ℕ → V → Type 0)
    → Type 0
SameValues {V} represents other = (b : List ℕ) (p : ℕ) (v : V) → represents b p v ↔ other b p v

-- the parts, the steps, the fixed bytes and the overflows of both formats are the same
pub record SameFormat {V R : Type 0} (f g : Format V R) : Type 0 where
  pub parts : (v : V) (p : ℕ) (part : List ℕ) (r : R) → f.parts v p part r ↔ g.parts v p part r
  pub next : (v : V) (p : ℕ) (front : List ℕ) (step : Step)
      → f.next v p front step ↔ g.next v p front step
  pub image : (v : V) (r : R) (p : ℕ) (out : List ℕ) → f.image v r p out ↔ g.image v r p out
  pub overflow : (v : V) (r : R) (p : ℕ) → f.overflow v r p ↔ g.overflow v r p
