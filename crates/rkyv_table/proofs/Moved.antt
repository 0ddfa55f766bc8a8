-- A property of two things is one of equal things.
use Rattle.std.proofs.Common.{◌≡◌, subst}

-- as a property of a position in some bytes
pub moved : {A B : Type 0} (P : A → B → Type 0) (a c : A) (p q : B) → a ≡ c → p ≡ q → P a p → P c q
moved P a c p q e f h = subst (λ x. P x q) e (subst (λ y. P a y) f h)
