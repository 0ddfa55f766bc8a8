-- Laws of checks in order, and of results that state the first failing check.
use Rattle.std.proofs.Common.{arith}
use Rattle.std.proofs.lemmas.Grind.{common_steps}
use Rattle.std.proofs.Common.{◌≡◌, ◌↔◌, Result, Ok, Err, MatchResult, IsErrAnd, inl, inr, sym, subst}
use Rattle.rkyv_container.specs.declared.errors.ContainerError.{ContainerError}
use Rattle.rkyv_container.specs.{AllPass, Checks, FirstFails, check, done, followed_by}

-- both groups pass
pub pass_both : (p q : Checks) → AllPass p → AllPass q → AllPass (followed_by p q)
pass_both done q a b = b
pass_both (check P e rest) q a b = (a.0, pass_both rest q a.1 b)

-- a check of the first group fails
pub fails_first : (p q : Checks) (e : ContainerError) → FirstFails p e
    → FirstFails (followed_by p q) e
fails_first done q e f = absurd f
fails_first (check P x rest) q e (inl f) = inl f
fails_first (check P x rest) q e (inr f) = inr (f.0, fails_first rest q e f.1)

-- the first group passes, and a check of the second fails
pub fails_later : (p q : Checks) (e : ContainerError) → AllPass p → FirstFails q e
    → FirstFails (followed_by p q) e
fails_later done q e a f = f
fails_later (check P x rest) q e a f = inr (a.0, fails_later rest q e a.1 f)

-- checks that pass don't fail
pub pass_excludes : (p : Checks) (e : ContainerError) → AllPass p → FirstFails p e → ⊥
pass_excludes done e a f = f
pass_excludes (check P x rest) e a (inl f) = f.0 a.0
pass_excludes (check P x rest) e a (inr f) = pass_excludes rest e a.1 f.1

-- the first error is unique
pub first_unique : (p : Checks) (e o : ContainerError) → FirstFails p e → FirstFails p o → e ≡ o
first_unique done e o f g = absurd f
first_unique (check P x rest) e o (inl f) (inl g) = let h = f.1 in let k = g.1 in cc
first_unique (check P x rest) e o (inl f) (inr g) = absurd (f.0 g.0)
first_unique (check P x rest) e o (inr f) (inl g) = absurd (g.0 f.0)
first_unique (check P x rest) e o (inr f) (inr g) = first_unique rest e o f.1 g.1

-- a result whose values and errors have exact and exclusive conditions
pub ok_exact : {X : Type 0} (r : Result X ContainerError) (P : X → Type 0)
    (Q : ContainerError → Type 0) → ((x : X) (e : ContainerError) → P x → Q e → ⊥)
    → ((x y : X) → P x → P y → x ≡ y) → MatchResult r P Q → (x : X) → (r ≡ Ok x) ↔ P x
ok_exact (Ok y) P Q apart unique m x = grind (arith, common_steps)
ok_exact (Err o) P Q apart unique m x =
    (λ (k : Err o ≡ Ok x). absurd (cc), λ (p : P x). absurd (apart x o p m))

pub err_exact : {X : Type 0} (r : Result X ContainerError) (P : X → Type 0)
    (Q : ContainerError → Type 0) → ((x : X) (e : ContainerError) → P x → Q e → ⊥)
    → ((e o : ContainerError) → Q e → Q o → e ≡ o) → MatchResult r P Q
    → (e : ContainerError) → (r ≡ Err e) ↔ Q e
err_exact (Ok x) P Q apart unique m e =
    (λ (k : Ok x ≡ Err e). absurd (cc), λ (q : Q e). absurd (apart x e m q))
err_exact (Err o) P Q apart unique m e = grind (arith, common_steps)

-- a result that passes an error on
pub err_from : {X : Type 0} (r : Result X ContainerError) (P : X → Type 0)
    (Q : ContainerError → Type 0) (e : ContainerError) → IsErrAnd r (λ o. o ≡ e) → Q e
    → MatchResult r P Q
err_from (Ok x) P Q e m q = absurd m
err_from (Err o) P Q e m q = subst Q (sym m) q
