-- Values that are archived and compared as pairs.
use Rattle.std.specs.Prelude.{ℕ, List}
use Rattle.rkyv_base.specs.{ElementSpec, PairRepresents, RepresentsAs}
use Rattle.rkyv_keys.specs.{entry_equals}

-- the pair `as_value x` is represented at `p`: the key at `p`, and the value at the value's offset
abbrev pub RepresentsAsPair : {X A B : Type 0} → ElementSpec → ElementSpec → (List ℕ → ℕ → A
    → Type 0)
    → (List ℕ → ℕ → B → Type 0) → (X → A × B) → List ℕ → ℕ → X → Type 0
RepresentsAsPair k v key value as_value = RepresentsAs as_value (PairRepresents k v key value)

-- each part of the entry equals its part of the pair `as_value x`
abbrev pub equals_as : {X A B : Type 0} → ElementSpec → ElementSpec → (List ℕ → ℕ → A → Type 0)
    → (List ℕ → ℕ → B → Type 0) → (X → A × B) → List ℕ → ℕ → X → Type 0
equals_as k v key value as_value b p x = entry_equals k v key value b p (as_value x)
