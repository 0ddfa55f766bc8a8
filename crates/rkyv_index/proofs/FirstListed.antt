-- The first accepted index of a range is the index of the first accepted pair of a list.
use Rattle.std.proofs.Common.{◌≡◌, ℕ, ◌<◌, ◌∙◌, arith, inl, inr, sym, Bool, true, false, List, None, Option, Some, length}
use Rattle.std.specs.List.{find, list_any, range_with_len, slice_get}
use Rattle.std.proofs.lemmas.Bool.{both_ways, false_from_ne_true}
use Rattle.std.proofs.lemmas.Option.{slice_get_cases, slice_get_within}
use Rattle.rkyv_table.proofs.Lists.{any_range, first_range, none_find}
use Rattle.rkyv_index.specs.{IsFirst}

-- if no index of a range is accepted, each is not
pub none_each : (P : ℕ → Bool) (n : ℕ) → find P (range_with_len 0 n) ≡ None → (i : ℕ) → i < n → P i ≡ false
none_each P n h i below = false_from_ne_true (P i) (λ t.
    both_ways (list_any P (range_with_len 0 n)) (none_find P (range_with_len 0 n) h) (any_range P 0 n i (omega arith) (omega arith) t))

module _ {A B : Type 0} (P : ℕ → Bool) (accept : A → Bool) (pairs : List (A × B)) (agrees : (i : ℕ) (pair : A × B) → slice_get pairs i ≡ Some pair → P i ≡ accept pair.0) where
  there : (n : ℕ) → n < length pairs → P n ≡ true → (pair : A × B) × (slice_get pairs n ≡ Some pair) × (accept pair.0 ≡ true)
  there n below fits = elim ((slice_get_cases pairs n).1) [
    | inl x ↦ (x.0, x.2, sym (agrees n x.0 x.2) ∙ fits)
    | inr past ↦ absurd (omega (arith, below, past.0))
  ]

  pub first_listed : (found : Option ℕ) → find P (range_with_len 0 (length pairs)) ≡ found → IsFirst accept pairs found
  first_listed None h = λ i pair e. sym (agrees i pair e) ∙ none_each P (length pairs) h i (slice_get_within pairs i pair e)
  first_listed (Some n) h =
      let f = first_range P 0 (length pairs) n h in
      (there n (omega (arith, f.to)) f.yes, λ i pair lt e. sym (agrees i pair e) ∙ f.no i (omega arith) lt)
