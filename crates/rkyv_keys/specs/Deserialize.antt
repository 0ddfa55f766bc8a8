-- Deserialization: its results and its errors.
use Rattle.std.specs.Prelude.{◌≡◌, ◌<◌, ◌↔◌, ℕ, List, MatchResult, Result, length}
use Rattle.std.specs.Int.{Width}
use Rattle.rkyv_base.specs.{AtView, ElementSpec, IsElement, text_at}
use Rattle.rkyv_base.specs.declared.errors.ReadError.{ReadError}
use Rattle.rkyv_base.specs.declared.errors.ReadError.TheVariants.{Memory}
use Rattle.rkyv_base.specs.declared.view.View.{View}

-- the errors that deserializing the value at a position can return
abbrev pub DeserializeErrors : Type 1
DeserializeErrors = List ℕ → ℕ → ReadError → Type 0

-- deserializing never fails
abbrev pub nothing_fails : DeserializeErrors
nothing_fails b p e = ⊥

-- deserializing a text fails only if it is not empty and memory could not be allocated
abbrev pub text_fails : Width → DeserializeErrors
text_fails w b p e = (e ≡ Memory) × (0 < length (text_at w b p))

-- `errors` and `errors'`: the same errors of the value at each position
abbrev pub SameErrors : DeserializeErrors → DeserializeErrors → Type 0
SameErrors errors errors' = (b : List ℕ) (p : ℕ) (e : ReadError) → errors b p e ↔ errors' b p e

-- `result`: a value that the bytes at the view represent, or an error of deserializing it
abbrev pub Deserializes : {A T : Type 0} → (List ℕ → ℕ → A → Type 0) → DeserializeErrors → View T
    → Result A ReadError → Type 0
Deserializes represents errors view result = MatchResult result (AtView represents view)
    (AtView errors view)

-- the members of an element that is deserialized as `A`
abbrev pub DeserializeMembers : Type 0 → Type 1
DeserializeMembers A = record {
  spec : ElementSpec;
  laws : IsElement spec;
  represents : List ℕ → ℕ → A → Type 0;
  deserialize_fails : DeserializeErrors;
}
