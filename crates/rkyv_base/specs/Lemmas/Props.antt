-- Which types are propositions.
use Rattle.std.specs.Prelude.{◌≡◌, ℕ, ◌⊎◌}
use Rattle.std.proofs.Common.{sym, ◌∙◌, ap, inl, inr}
use mathlib.Core.HLevel.{Σ_prop_path}

-- a type is a proposition if it can be had from one and back
pub prop_by : {A B : Type 0} (to : A → B) (from : B → A) → ((x : A) → from (to x) ≡ x) → IsProp B
    → IsProp A
prop_by to from back prop x y = sym (back x) ∙ ap from (prop (to x) (to y)) ∙ back y

-- a property of a number that only one number has
pub only_one : {P : ℕ → Type 0} → ((n : ℕ) → IsProp (P n)) → ((n m : ℕ) → P n → P m → n ≡ m)
    → IsProp ((n : ℕ) × P n)
only_one props one u v = Σ_prop_path props (one u.0 v.0 u.1 v.1)

-- one of two propositions that exclude each other
pub either_prop : {A B : Type 0} → IsProp A → IsProp B → (A → B → ⊥) → IsProp (A ⊎ B)
either_prop a b apart (inl x) (inl y) = ap inl (a x y)
either_prop a b apart (inl x) (inr y) = absurd (apart x y)
either_prop a b apart (inr x) (inl y) = absurd (apart y x)
either_prop a b apart (inr x) (inr y) = ap inr (b x y)
