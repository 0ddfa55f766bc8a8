-- The items at the positions of a row.
use Rattle.std.proofs.Common.{◌≡◌, ℕ, ◌+◌, ◌*◌, refl, subst, arith, List, [], ◌∷◌, length, Some, zero, suc}
use Rattle.std.specs.List.{AllZip}
use Rattle.std.specs.Prelude.{slice_get}
use Rattle.rkyv_index.specs.{row}

module _ {X : Type 0} (R : ℕ → X → Type 0) (size : ℕ) where
  -- each item is at its position in the row
  pub row_zip : (xs : List X) (q n : ℕ) → n ≡ length xs → ((i : ℕ) (x : X) → slice_get xs i ≡ Some x → R (q + i * size) x) → AllZip R (row size q n) xs
  row_zip [] q zero e h = tt
  row_zip [] q (suc n) e h = absurd (omega (arith, e))
  row_zip (x ∷ xs) q zero e h = absurd (omega (arith, e))
  row_zip (x ∷ xs) q (suc n) e h = (
    subst (λ r. R r x) (omega arith) (h 0 x refl),
    row_zip xs (q + size) n (omega (arith, e)) (λ i y at. subst (λ r. R r y) (omega arith) (h (suc i) y at)),
  )
