-- The positions of a row of values.
use Rattle.std.proofs.Common.{◌≡◌, ℕ, zero, suc, ◌+◌, ◌-◌, ◌<◌, refl, sym, ◌∙◌, ap, arith, List, ◌∷◌, length}
use Rattle.std.proofs.lemmas.Grind.{common_steps}
use Rattle.std.specs.Borrow.{Bor}
use Rattle.rkyv_table.specs.{ItemsLeft}
use Rattle.rkyv_index.specs.{row}

-- a row is its first position and the row of the others
pub row_step : (size q n : ℕ) → 0 < n → row size q n ≡ q ∷ row size (q + size) (n - 1)
row_step size q n h = grind (arith, common_steps)

pub row_length : (size q n : ℕ) → length (row size q n) ≡ n
row_length size q zero = refl
row_length size q (suc n) = ap suc (row_length size (q + size) n)

-- the number of positions that remain
pub row_left : (archive : Bor (List ℕ)) (size q n : ℕ) (left : ItemsLeft) → record { archive = archive; positions = row size q n } ≡ left → n ≡ length left.positions
row_left archive size q n left e = sym (row_length size q n) ∙ ap (λ (l : ItemsLeft). length l.positions) e
