-- The first accepted index below `n`, where one index is known to be accepted.
use Rattle.std.proofs.Common.{◌≡◌, ℕ, zero, suc, ◌+◌, ◌-◌, ◌<◌, refl, arith, cond, Bool, true, not, List, [], ◌∷◌, ◌++◌, Option, Some, None}
use Rattle.std.proofs.lemmas.Grind.{common_steps}
use Rattle.std.specs.List.{find, range_with_len}
use Rattle.std.specs.Option.{is_some}
use Rattle.std.proofs.lemmas.Bool.{eq-eqb, ne_eqb}
use Rattle.std.proofs.lemmas.Option.{none-some, same_Some}
use Rattle.rkyv_table.specs.{is_found_at}
use Rattle.rkyv_table.proofs.Groups.{range_append}
use Rattle.rkyv_index.specs.{indices_of}

front_step : (t : Bool) (y x : ℕ) (r r' : Option ℕ) → (r ≡ Some x → r' ≡ Some x) → cond t (Some y) r ≡ Some x → cond t (Some y) r' ≡ Some x
front_step b y x r r' h e = grind (arith, common_steps)

none_step : (t : Bool) (y : ℕ) (r r' s : Option ℕ) → (r ≡ None → r' ≡ s) → cond t (Some y) r ≡ None → cond t (Some y) r' ≡ s
none_step b y r r' s h e = grind (arith, common_steps, none-some)

below_step : (t : Bool) (y x m : ℕ) (r : Option ℕ) → y < m → (r ≡ Some x → x < m) → cond t (Some y) r ≡ Some x → x < m
below_step b y x m r lt h e = grind (arith, common_steps, same_Some)

module _ (P : ℕ → Bool) where
  find-front : (xs ys : List ℕ) (x : ℕ) → find P xs ≡ Some x → find P (xs ++ ys) ≡ Some x
  find-front [] ys x e = absurd (none-some x e)
  find-front (y ∷ xs) ys x e = front_step (P y) y x (find P xs) (find P (xs ++ ys)) (find-front xs ys x) e

  find-behind : (xs ys : List ℕ) → find P xs ≡ None → find P (xs ++ ys) ≡ find P ys
  find-behind [] ys e = refl
  find-behind (y ∷ xs) ys e = none_step (P y) y (find P xs) (find P (xs ++ ys)) (find P ys) (find-behind xs ys) e

  found_below : (a n x : ℕ) → find P (range_with_len a n) ≡ Some x → x < a + n
  found_below a zero x e = absurd (none-some x e)
  found_below a (suc n) x e =
      below_step (P a) a x (a + suc n) (find P (range_with_len (a + 1) n)) (omega arith)
      (λ h. let k = found_below (a + 1) n x h in omega (arith, k)) e

  module _ (n i : ℕ) (below : i < n) (ok : P i ≡ true) where
    abbrev rest : List ℕ
    rest = range_with_len (i + 1) (n - (i + 1))

    split : indices_of n ≡ indices_of i ++ i ∷ rest
    split = grind (arith, common_steps, range_append 0 i (suc (n - (i + 1))))

    by_front : (o : Option ℕ) → find P (indices_of i) ≡ o → not (is_found_at i (find P (indices_of n))) ≡ is_some o
    by_front found e = grind (arith, common_steps, split, find-behind, eq-eqb, find-front, found_below, ne_eqb)

    -- an accepted index isn't the first if and only if an earlier index is accepted
    pub another_repeated : not (is_found_at i (find P (indices_of n))) ≡ is_some (find P (indices_of i))
    another_repeated = by_front (find P (indices_of i)) refl
