-- Properties of each element of a list after a push, of two equal lists, and of a count.
use Rattle.std.proofs.Common.{◌≡◌, ◌<◌, ℕ, zero, suc, ◌+◌, ◌∙◌, List, [], ◌∷◌, ◌++◌, Bool, true, Some, ap, arith, length, refl, subst, sym}
use Rattle.std.proofs.lemmas.Grind.{common_steps}
use Rattle.std.proofs.lemmas.Bool.{and_from}
use Rattle.std.proofs.lemmas.List.{length_push}
use Rattle.std.proofs.lemmas.Option.{none-some, same_Some}
use Rattle.std.specs.Cmp.Lexicographic.{pointwise}
use Rattle.std.specs.List.{slice_get}

pub pushed_too : {X : Type 0} (P : ℕ → X → Type 0) (xs : List X) (x : X) → ((i : ℕ) (y : X) → slice_get xs i ≡ Some y → P i y) → P (length xs) x
    → (i : ℕ) (y : X) → slice_get (xs ++ x ∷ []) i ≡ Some y → P i y
pushed_too P [] x all here zero y e = subst (P 0) (same_Some x y e) here
pushed_too P [] x all here (suc i) y e = absurd (none-some y e)
pushed_too P (z ∷ xs) x all here zero y e = all 0 y e
pushed_too P (z ∷ xs) x all here (suc i) y e = pushed_too (λ j. P (suc j)) xs x (λ j. all (suc j)) here i y e

-- the same of a list `new` of one element more
pub one_pushed : {X : Type 0} (P : ℕ → X → Type 0) (xs new : List X) (x : X) (n : ℕ) → new ≡ xs ++ x ∷ [] → length xs ≡ n → ((i : ℕ) (y : X) → slice_get xs i ≡ Some y → P i y) → P n x
    → (length new ≡ n + 1) × ((i : ℕ) (y : X) → slice_get new i ≡ Some y → P i y)
one_pushed P xs new x n is count all here = (
  ap length is ∙ length_push xs x ∙ ap (λ k. k + 1) count,
  λ i y e. pushed_too P xs x all (subst (λ k. P k x) (sym count) here) i y (ap (λ ys. slice_get ys i) (sym is) ∙ e),
)

-- lists of one length are equal if their elements at each index are
pub equal_lists : {X : Type 0} (equal : X → X → Bool) (xs ys : List X) → length xs ≡ length ys
    → ((i : ℕ) (x y : X) → slice_get xs i ≡ Some x → slice_get ys i ≡ Some y → equal x y ≡ true)
    → pointwise equal xs ys ≡ true
equal_lists equal [] [] n h = refl
equal_lists equal [] (y ∷ ys) n h = absurd (omega (arith, n))
equal_lists equal (x ∷ xs) [] n h = absurd (omega (arith, n))
equal_lists equal (x ∷ xs) (y ∷ ys) n h =
    and_from (equal x y) (pointwise equal xs ys) (h 0 x y refl refl)
    (equal_lists equal xs ys (omega (arith, n)) (λ i. h (suc i)))

-- a number that equals one that isn't 0 is above 0
pub above_zero : (n m : ℕ) → n ≡ m → (n ≡ 0 → ⊥) → 0 < m
above_zero n m is not_zero = grind (arith, common_steps)
