-- Lookups whose result is compared with a value.
use Rattle.std.proofs.Common.{arith, ◌≡◌, ℕ, ◌↔◌, Bool, false, List, ◌∷◌, Option, Some}
use Rattle.std.proofs.lemmas.Grind.{common_steps}
use Rattle.std.specs.Prelude.{IsSomeAnd, IsTrue}
use Rattle.std.specs.List.{All}
use Rattle.std.specs.Option.{option_map}
use Rattle.std.proofs.lemmas.List.Elements.{All-cons, All-tail}
use Rattle.std.proofs.lemmas.Option.{none-some, same_Some}

-- `x`: `f` of the found position. `P x` if and only if a position `q` is found with `P (f q)`
pub of_found : (f : ℕ → ℕ) (P : ℕ → Type 0) (o : Option ℕ) (x : ℕ) → Some x ≡ option_map f o → P x ↔ IsSomeAnd o (λ q. P (f q))
of_found f P found x e = grind (arith, common_steps, none-some, same_Some)

module _ {X : Type 0} (P : X → Type 0) (whole : List X) where
  -- the remaining items decide for all
  abbrev pub Decides : List X → Type 0
  Decides left = All P left ↔ All P whole

  pub decides_next : (x : X) (left : List X) → Decides (x ∷ left) → P x → Decides left
  decides_next x left d h = (λ all. d.0 (All-cons P x left h all), λ all. All-tail P x left (d.1 all))

  -- the result of a comparison of all items is `false` if a remaining item fails
  module _ (n m : ℕ) where
    pub one_fails : (x : X) (left : List X) → Decides (x ∷ left) → (r : Bool) → IsTrue r ↔ P x → r ≡ false → IsTrue false ↔ ((n ≡ m) × All P whole)
    one_fails x left d r decides no' = grind (arith, common_steps)
