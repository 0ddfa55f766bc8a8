-- A closure that is called with a found position, or is not called.
use Rattle.std.proofs.Common.{◌≡◌, ℕ, List, None, Option, Some, refl, subst}
use Rattle.std.specs.Borrow.{MutBor}
use Rattle.rkyv_table.specs.{WritesIn}

module _ {F R : Type 0} (post : F → MutBor (List ℕ) → ℕ → R → MutBor (List ℕ) → Type 0) (write : F) where
  -- the result of a writer that is called with the found position
  pub written_at_found : (x y : MutBor (List ℕ)) (r : R) (pos : ℕ) (found : Option ℕ)
      → Some pos ≡ found → post write x pos r y → WritesIn post write x.now (Some r) y.now found
  written_at_found x y r pos found e h = subst (WritesIn post write x.now (Some r) y.now) e (r, refl, (x, y, refl, refl, h))

  pub unwritten_if_none : (b : List ℕ) (found : Option ℕ) → None ≡ found → WritesIn post write b None b found
  unwritten_if_none b found e = subst (WritesIn post write b None b) e (refl, refl)
