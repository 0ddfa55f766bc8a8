-- Functions and properties of the bytes of a view and of its position.
use Rattle.std.proofs.Common.{◌≡◌, ◌∙◌, ℕ, List, ap, subst, sym}
use Rattle.std.specs.Borrow.{Bor}
use Rattle.rkyv_base.specs.{IsAt, bytes_of, pos_of}
use Rattle.rkyv_base.specs.declared.view.View.{View}

module _ {T : Type 0} (v : View T) (archive : Bor (List ℕ)) (p : ℕ) (at : IsAt v archive p) where
  -- a function of a view's bytes and position has the value for the archive and `p`
  pub read_at : {X : Type 0} (f : List ℕ → ℕ → X) → f (bytes_of v) (pos_of v) ≡ f archive.now p
  read_at f = ap (λ (a : Bor (List ℕ)). f a.now (pos_of v)) at.0 ∙ ap (f archive.now) at.1

  -- a property of the view is one of the archive at `p`
  pub forth_at : (P : List ℕ → ℕ → Type 0) → P (bytes_of v) (pos_of v) → P archive.now p
  forth_at P h = subst (P archive.now) at.1 (subst (λ (a : Bor (List ℕ)). P a.now (pos_of v)) at.0 h)

  -- a property of the archive at `p` is one of the view
  pub back_at : (P : List ℕ → ℕ → Type 0) → P archive.now p → P (bytes_of v) (pos_of v)
  back_at P h = subst (λ (a : Bor (List ℕ)). P a.now (pos_of v)) (sym at.0) (subst (P archive.now) (sym at.1) h)
