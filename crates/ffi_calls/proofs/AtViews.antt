-- A value at a view is at the position of the view in the archive.
use Rattle.std.proofs.Common.{◌≡◌, ℕ, List, subst}
use Rattle.std.specs.Borrow.{Bor}

-- a property of the bytes of a view and of its position is one of the archive and of the position there
pub there : (P : List ℕ → ℕ → Type 0) (a archive : Bor (List ℕ)) (p q : ℕ) (b : List ℕ) → a ≡ archive → archive.now ≡ b → p ≡ q → P a.now p → P b q
there P a archive p q b e same at h = subst (P b) at (subst (λ bytes. P bytes p) same (subst (λ (x : Bor (List ℕ)). P x.now p) e h))
