-- Rows that are matched with columns, no two with the same one.
use Rattle.std.proofs.lemmas.Grind.{common_steps}
use Rattle.std.proofs.Common.{◌≡◌, ℕ, ◌+◌, ◌<◌, ◌≤◌, ◌∙◌, inl, inr, refl, sym, ap, arith, Bool, true, false, cond, ltb}
use Rattle.std.specs.List.{list_any, position_or_len, range_with_len}
use Rattle.std.proofs.lemmas.Bool.{both_ways, cases_Bool, cases_lt, le-ltb, lt-ltb}
use Rattle.std.proofs.lemmas.List.FromFn.{get_or-range_with_len, length-map-range_with_len, length-range_with_len}
use Rattle.std.proofs.lemmas.List.Sums.{passes_at_first}
use Rattle.std.proofs.lemmas.Map.Steps.{length-le_from_distinct_below}
use Rattle.rkyv_table.proofs.Lists.{any_range, distinct_map_range, from_map_range}
use Rattle.rkyv_table.proofs.Written.{first_within}

-- each row has a column that is the same, and no column is the same as two rows
pub record IsMatching (rows columns : ℕ) (same : ℕ → ℕ → Bool) : Type 0 where
  pub each : (i : ℕ) → i < rows → (j : ℕ) × (j < columns) × (same i j ≡ true)
  pub apart : (i i' j : ℕ) → i < rows → i' < rows → j < columns → same i j ≡ true → same i' j ≡ true → i ≡ i'

-- distinct numbers below a bound are at most as many as the bound
few_below : (f : ℕ → ℕ) (n bound : ℕ) → ((i j : ℕ) → i < n → j < n → f i ≡ f j → i ≡ j) → ((i : ℕ) → i < n → f i < bound) → n ≤ bound
few_below f n bound differ below = grind (arith, common_steps, length-map-range_with_len f 0 n, distinct_map_range f n differ, length-le_from_distinct_below, from_map_range)

module _ (rows columns : ℕ) (same : ℕ → ℕ → Bool) (matching : IsMatching rows columns same) where
  -- the first column that is the same as the row
  column : ℕ → ℕ
  column i = position_or_len (same i) (range_with_len 0 columns)

  column_same : (i : ℕ) → i < rows → (column i < columns) × (same i (column i) ≡ true)
  unfolding column
  column_same i h =
      let m = matching.each i h in
      let xs = range_with_len 0 columns in
      let some = any_range (same i) 0 columns m.0 (omega arith) (omega arith) m.2 in
      let inside = first_within (same i) xs some in
      grind (arith, common_steps, length-range_with_len 0 columns, passes_at_first (same i) xs 0 inside, get_or-range_with_len)

  columns_differ : (i j : ℕ) → i < rows → j < rows → column i ≡ column j → i ≡ j
  columns_differ i j hi hj e = grind (arith, common_steps, column_same)

  -- there are at least as many columns as rows
  pub rows_within : rows ≤ columns
  rows_within = few_below column rows columns columns_differ (λ i h. (column_same i h).0)

  -- if there are as many rows as columns, each column has a row
  pub column_matched : rows ≡ columns → (j : ℕ) → j < columns → (i : ℕ) × (i < rows) × (same i j ≡ true)
  column_matched equal j h = elim (cases_Bool (list_any (λ i. same i j) (range_with_len 0 rows))) [
    | inl some ↦
        let xs = range_with_len 0 rows in
        let row : ℕ → Bool = λ i. same i j in
        let inside = first_within row xs some in
        let n = length-range_with_len 0 rows in
        let below : position_or_len row xs < rows = omega arith in
        let at = get_or-range_with_len 0 rows (position_or_len row xs) 0 below in
        let first : 0 + position_or_len row xs ≡ position_or_len row xs = omega arith in
        (position_or_len row xs, below, ap row (sym (at ∙ first)) ∙ passes_at_first row xs 0 inside)
    | inr none ↦
        let more : ℕ → ℕ = λ i. cond (ltb i rows) (column i) j in
        let early : (i : ℕ) → i < rows → more i ≡ column i = λ i l. rw (lt-ltb i rows l) refl in
        let last : (i : ℕ) → rows ≤ i → more i ≡ j = λ i l. rw (le-ltb i rows l) refl in
        let other : (i : ℕ) → i < rows → column i ≡ j → ⊥ = λ i l e.
        both_ways (same i j) (none_in i l none) (ap (same i) (sym e) ∙ (column_same i l).1) in
        let differ : (i k : ℕ) → i < rows + 1 → k < rows + 1 → more i ≡ more k → i ≡ k = λ i k hi hk e.
        elim (cases_lt i rows) [
          | inl li ↦ elim (cases_lt k rows) [
            | inl lk ↦ columns_differ i k li lk (sym (early i li) ∙ e ∙ early k lk)
            | inr gk ↦ absurd (other i li (sym (early i li) ∙ e ∙ last k gk))
          ]
          | inr gi ↦ elim (cases_lt k rows) [
            | inl lk ↦ absurd (other k lk (sym (early k lk) ∙ sym e ∙ last i gi))
            | inr gk ↦ omega arith
          ]
        ] in
        let below : (i : ℕ) → i < rows + 1 → more i < columns = λ i l.
        elim (cases_lt i rows) [
          | inl li ↦ rw (early i li) (column_same i li).0
          | inr gi ↦ rw (last i gi) h
        ] in
        absurd (omega (arith, few_below more (rows + 1) columns differ below))
  ]
    where
      none_in : (i : ℕ) → i < rows → list_any (λ i. same i j) (range_with_len 0 rows) ≡ false → same i j ≡ false
      none_in i l none = elim (cases_Bool (same i j)) [
        | inl t ↦ absurd (both_ways (list_any (λ i. same i j) (range_with_len 0 rows)) none (any_range (λ i. same i j) 0 rows i (omega arith) (omega arith) t))
        | inr f ↦ f
      ]
