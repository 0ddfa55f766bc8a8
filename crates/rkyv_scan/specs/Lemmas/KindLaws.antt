-- Proofs of the laws of the kinds of group.
use Rattle.std.proofs.lemmas.Grind.{common_steps}
use Rattle.std.proofs.Common.{arith, ◌≡◌, ℕ, zero, suc, ◌<◌, ◌≤◌, ◌^◌, Bool, true, false, ◌||◌}
use Rattle.std.proofs.Common.{◌&&◌, List, slice_index, arith, eq-eqb, eqb-true, refl, ◌⊎◌, inl}
use Rattle.std.proofs.Common.{inr}
use Rattle.std.proofs.lemmas.Nat.{xor_lt}
use Rattle.std.proofs.lemmas.Bool.{or_left, true≢false}
use Rattle.rkyv_scan.specs.{IsKind, generic_kind, is_equal_at, is_word_match_at}

or_and_cases : (a b c : Bool) → (a || (b && c)) ≡ true → (a ≡ true) ⊎ ((b ≡ true) × (c ≡ true))
or_and_cases true b c h = inl refl
or_and_cases false true true h = inr (refl, refl)
or_and_cases false true false h = cc
or_and_cases false false c h = cc

equal_is_marked : (s : List ℕ) (t k : ℕ) → slice_index s k ≡ t → is_word_match_at s t k ≡ true
equal_is_marked s t zero h = eq-eqb (slice_index s zero) t h
equal_is_marked s t (suc k) h = or_left _ _ (eq-eqb (slice_index s (suc k)) t h)

marked_is_full : (s : List ℕ) (t k : ℕ) → t < 128 → is_word_match_at s t k ≡ true
    → slice_index s k < 128
marked_is_full s t zero l h = omega (arith, eqb-true (slice_index s zero) t h)
marked_is_full s t (suc k) l h = grind (arith, common_steps, xor_lt, or_and_cases)

lowest_is_equal : (s : List ℕ) (t k : ℕ) → is_word_match_at s t k ≡ true
    → ((j : ℕ) → j < k → is_word_match_at s t j ≡ false) → slice_index s k ≡ t
lowest_is_equal s t zero h low = eqb-true (slice_index s zero) t h
lowest_is_equal s t (suc k) h low = grind (arith, common_steps, true≢false, or_and_cases)

pub word_lawful : IsKind generic_kind
word_lawful = record {
  power = (3, omega arith, refl);
  equal = λ s t k l h. equal_is_marked s t k h;
  full = λ s t k l h. marked_is_full s t k l h;
  lowest = λ s t k h low. lowest_is_equal s t k h low;
}

-- a kind that only marks the equal bytes is lawful
pub equal_lawful : (k : ℕ) → k ≤ 4 → IsKind (record { width = 2 ^ k; marks = is_equal_at })
equal_lawful k small = grind (arith, common_steps)
