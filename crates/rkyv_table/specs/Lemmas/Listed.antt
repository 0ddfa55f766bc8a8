-- Lemmas: the formats of lists with a capacity, and of values of another type.
use Rattle.std.specs.Prelude.{ℕ, List}
use Rattle.rkyv_base.specs.{ElementSpec, Format, IsFormat}
use Rattle.rkyv_table.specs.{listed, written_as_each}

pub listed-format : {X R : Type 0} (max : ℕ) (factor : ℕ × ℕ) (s : ElementSpec)
    (represents : List ℕ → ℕ → List X → Type 0) (f : Format (List X) R)
    → IsFormat s represents f → IsFormat s represents (listed max factor f)
listed-format max factor s represents f law = record {
  size_exact = law.size_exact;
  exclusive = law.exclusive;
  sound = λ xs r c p0 p part out h i s' t o al. law.sound xs r c p0 p part out h.1 i s' t o al;
}

pub written_as_each-format : {X V R : Type 0} (value_of : X → V) (s : ElementSpec)
    (represents : X → List ℕ → ℕ → V → Type 0) (f : X → Format V R)
    → ((x : X) → IsFormat s (represents x) (f x))
    → IsFormat s (λ b p x. represents x b p (value_of x)) (written_as_each value_of f)
written_as_each-format value_of s represents f laws = record {
  size_exact = λ x. (laws x).size_exact (value_of x);
  exclusive = λ x. (laws x).exclusive (value_of x);
  sound = λ x. (laws x).sound (value_of x);
}
