-- Counting indices, and adding their strides, from the first to the last.
use Rattle.std.proofs.Common.{◌≡◌, ◌+◌, ◌-◌, ◌<◌, ◌≤◌, ◌∙◌, ap, arith, true, false, Bool, List, ℕ, filter, length}
use Rattle.std.specs.List.{range_with_len, sum_by}
use Rattle.std.proofs.lemmas.List.Sums.{sum_by-cons}
use Rattle.rkyv_table.proofs.Lists.{range_cons}
use Rattle.rkyv_index.proofs.Checking.{all_left, filter_skip, filter_step, none_left}

-- at first, all indices remain
pub left_first : (P : ℕ → Bool) (n : ℕ) → length (filter P (range_with_len 0 (n - 0))) ≡ length (filter P (range_with_len 0 n))
left_first P n = ap (λ (xs : List ℕ). length (filter P xs)) (all_left n)

-- the next index is counted or skipped, and at the end none remains
module _ (P : ℕ → Bool) (count i n all : ℕ) (exact : count + length (filter P (range_with_len i (n - i))) ≡ all) where
  pub one_more : (next : ℕ) → i < n → P i ≡ true → next ≡ count + 1 → next + length (filter P (range_with_len (i + 1) (n - (i + 1)))) ≡ all
  one_more next below passes e = let s = filter_step P i n below passes in omega (arith, s, e, exact)

  pub none_more : (next : ℕ) → i < n → P i ≡ false → next ≡ count → next + length (filter P (range_with_len (i + 1) (n - (i + 1)))) ≡ all
  none_more next below fails e = let s = filter_skip P i n below fails in omega (arith, s, e, exact)

  pub count_is_all : n ≤ i → count ≡ all
  count_is_all end = let none = ap (λ (xs : List ℕ). length (filter P xs)) (none_left i n end) in omega (arith, exact, none)

-- the strides of the remaining indices are the next index's, and the strides of the others
module _ (f : ℕ → ℕ) (i n : ℕ) where
  pub sum_first : sum_by f (range_with_len 0 (n - 0)) ≡ sum_by f (range_with_len 0 n)
  sum_first = ap (sum_by f) (all_left n)

  pub sum_step : i < n → sum_by f (range_with_len i (n - i)) ≡ f i + sum_by f (range_with_len (i + 1) (n - (i + 1)))
  sum_step below = ap (sum_by f) (range_cons i n below) ∙ sum_by-cons f i (range_with_len (i + 1) (n - (i + 1)))

  pub sum_end : n ≤ i → sum_by f (range_with_len i (n - i)) ≡ 0
  sum_end above = ap (sum_by f) (none_left i n above)
