-- The marks of both halves, by bits.
use Rattle.std.proofs.Common.{◌≡◌, ℕ, zero, suc, ◌+◌, ◌-◌, ◌*◌, ◌/◌, ◌%◌, ◌^◌, ◌<◌, ◌≤◌, ◌⊎◌, inl, inr, Bool, true, false, [], ◌∷◌, length, slice_get, ◌&&◌, ◌||◌, cond, eqb, max, min, List, slice_index, bit_and, bit_xor, refl, sym, ap, ◌∙◌, arith, eq-eqb, eqb-true}
use Rattle.std.proofs.lemmas.Grind.{common_steps}
use Rattle.std.specs.Int.{bit_at}
use Rattle.std.specs.List.{filter, range_with_len}
use Rattle.std.specs.Int.RustNames.{bit_or}
use Rattle.std.proofs.lemmas.Bool.{cases_Bool, cases_eq, false_from_ne_true, ne_eqb, true≢false}
use Rattle.std.proofs.lemmas.Nat.{shr_split}
use Rattle.std.proofs.lemmas.Option.{none-some}
use Rattle.std.proofs.lemmas.Nat.Bits.{bit_at-lt, bit_at-suc, bit_at-zero, bit_at_and, bit_at_cat_low, bit_at_or}
use Rattle.rkyv_scan.specs.{MarksEqual, bits_after, chain, half_of, group_lanes, indices_where, is_half_match_at, is_word_match_at, mask_bits, mask_indices, paired_indices}
use Rattle.rkyv_scan.specs.declared.simd.paired.bitmask.Bitmask.{Bitmask as PairedMask}
use Rattle.rkyv_scan.specs.Lemmas.Paired.{half_at, half_lower, paired_lawful}
use Rattle.rkyv_scan.proofs.Bits.{all_to_at}
use Rattle.rkyv_scan.proofs.Indices.{range_agree}

half_first : (xs : List ℕ) (t k : ℕ) → k % 8 ≡ 0 → is_half_match_at xs t k ≡ eqb (slice_index xs k) t
half_first xs t k e = ap (is_word_match_at (half_of xs k) t) e ∙ ap (λ x. eqb x t) (ap (slice_index (half_of xs k)) (sym e) ∙ half_at xs k)

half_next : (xs : List ℕ) (t k : ℕ) → (k % 8 ≡ 0 → ⊥) → is_half_match_at xs t k ≡ (eqb (slice_index xs k) t || (eqb (slice_index xs k) (bit_xor t 1) && is_half_match_at xs t (k - 1)))
half_next xs t k ne = grind (arith, half_at, half_lower, bit_xor)

-- ---- the mask of the indices that are not the first of a half
later_bit : (i : ℕ) → i < 16 → bit_at 65278 i ≡ cond (eqb (i % 8) 0) 0 1
later_bit i l = eqb-true _ _ (all_to_at 16 (λ i. eqb (bit_at 65278 i) (cond (eqb (i % 8) 0) 0 1)) refl i l)

after_none : (m k : ℕ) → k < 16 → k % 8 ≡ 0 → bit_at (bits_after m) k ≡ 0
unfolding bits_after
after_none m k l z = grind (arith, common_steps, later_bit, eq-eqb, bit_at_and)

after_some : (m k : ℕ) → k < 16 → (k % 8 ≡ 0 → ⊥) → bit_at (bits_after m) k ≡ bit_at m (k - 1)
unfolding bits_after
after_some m k l ne =
    let mask : bit_at 65278 k ≡ 1 = later_bit k l ∙ ap (λ b. cond b 0 1) (ne_eqb (k % 8) 0 ne) in
    let n = m * 2 ^ 1 in
    grind (arith, common_steps, bit_at_cat_low (n / 2 ^ 16) 16 (n % 2 ^ 16) k l, shr_split n 16, bit_at-suc n (k - 1), bit_at_and (n % 2 ^ 16) 65278 k, bit_at-lt (n % 2 ^ 16) k)

two : (a : ℕ) → a < 2 → (a ≡ 0) ⊎ (a ≡ 1)
two a l = elim (cases_eq a 0) [ inl z ↦ inl z | inr nz ↦ inr (omega arith) ]

or_mark : (a b c : ℕ) → a < 2 → b < 2 → c < 2 → eqb (max a (min c b)) 1 ≡ (eqb a 1 || (eqb b 1 && eqb c 1))
or_mark a b c p q r = grind (arith, common_steps, two)

pub chain_none_yet : (equal next : ℕ) → equal ≡ chain equal next 0
unfolding chain
chain_none_yet equal next = refl

pub chain_more : (equal next n : ℕ) → bit_or equal (bit_and (bits_after (chain equal next n)) next) ≡ chain equal next (n + 1)
unfolding chain
chain_more equal next n = let e : suc n ≡ n + 1 = omega arith in ap (chain equal next) e

-- the bits of `m` are the marks of the first n + 1 indices of each half
abbrev pub Chains : List ℕ → ℕ → ℕ → ℕ → Type 0
Chains xs t n m = (k : ℕ) → k < 16 → k % 8 ≤ n → eqb (bit_at m k) 1 ≡ is_half_match_at xs t k

module _ (xs : List ℕ) (t equal next : ℕ) (marks_byte : MarksEqual xs t equal) (marks_next : MarksEqual xs (bit_xor t 1) next) where
  chain_base : (m : ℕ) → Chains xs t 0 (bit_or equal (bit_and (bits_after m) next))
  chain_base m k l h = grind (arith, common_steps, after_none, bit_and, bit_at_or, bit_at_and, half_first)

  chain_step : (n m : ℕ) → Chains xs t n m → Chains xs t (suc n) (bit_or equal (bit_and (bits_after m) next))
  chain_step n m before k l h = elim (cases_eq (k % 8) 0) [
    | inl z ↦ chain_base m k l (omega arith)
    | inr nz ↦ grind (arith, common_steps, after_some, bit_at_or, bit_at_and, or_mark, bit_at-lt, half_next)
  ]

  pub chain_is : (n : ℕ) → Chains xs t n (chain equal next n)
  unfolding chain
  chain_is zero k l h = marks_byte k l ∙ sym (half_first xs t k (omega arith))
  chain_is (suc n) k l h = chain_step n (chain equal next n) (chain_is n) k l h

  -- a mask that a step leaves unchanged has all marks
  chain_fixed : (m : ℕ) → ((k : ℕ) → k < 16 → bit_at m k ≡ bit_at (bit_or equal (bit_and (bits_after m) next)) k) → (n : ℕ) → Chains xs t n m
  chain_fixed m e zero k l h = ap (λ x. eqb x 1) (e k l) ∙ chain_base m k l h
  chain_fixed m e (suc n) k l h = ap (λ x. eqb x 1) (e k l) ∙ chain_step n m (chain_fixed m e n) k l h

  pub chain_equal : bit_and (bits_after equal) next ≡ 0 → Chains xs t 7 equal
  chain_equal z = grind (arith, common_steps, chain_fixed, bit_at-zero, bit_at_or)

-- a test and a stricter one that the first index with the weaker one passes keep the same first index
first_agree : (p q : ℕ → Bool) (a n : ℕ) → ((k : ℕ) → k < a + n → q k ≡ true → p k ≡ true)
    → ((k : ℕ) → k < a + n → p k ≡ true → ((l : ℕ) → l < k → p l ≡ false) → q k ≡ true)
    → ((l : ℕ) → l < a → p l ≡ false) → slice_get (filter p (range_with_len a n)) 0 ≡ slice_get (filter q (range_with_len a n)) 0
first_agree p q a zero inside lowest below = refl
first_agree p q a (suc n) inside lowest below = elim (cases_Bool (p a)) [
  | inl hit ↦ let also = lowest a (omega arith) hit below in grind (arith, common_steps)
  | inr miss ↦
      let neither : q a ≡ false = false_from_ne_true (q a) (λ y. true≢false (sym (inside a (omega arith) y) ∙ miss)) in
      let rest = first_agree p q (a + 1) n (λ k l. inside k (omega arith)) (λ k l. lowest k (omega arith))
      (λ l m. elim (cases_eq l a) [ inl e ↦ ap p e ∙ miss | inr ne ↦ below l (omega arith) ]) in
      grind (arith, common_steps)
]

-- the lowest mark of a match is the lowest equal byte
first_marked : (xs : List ℕ) (t m : ℕ) → MarksEqual xs t m → slice_get (indices_where (is_half_match_at xs t) 16) 0 ≡ slice_get (mask_indices 1 0 16 m) 0
unfolding mask_indices indices_where
first_marked xs t m marks =
    let bit : (k : ℕ) → k < 16 → eqb (bit_at m (1 * k + 0)) 1 ≡ eqb (slice_index xs k) t =
    (λ k l. let at : 1 * k + 0 ≡ k = omega arith in ap (λ j. eqb (bit_at m j) 1) at ∙ marks k l) in
    first_agree (is_half_match_at xs t) (λ k. eqb (bit_at m (1 * k + 0)) 1) 0 16
    (λ k l h. paired_lawful.equal xs t k (omega arith) (eqb-true _ _ (sym (bit k (omega arith)) ∙ h)))
    (λ k l h low. bit k (omega arith) ∙ eq-eqb _ _ (paired_lawful.lowest xs t k h low))
    (λ l h. absurd (omega arith))

pub known_first : (m : PairedMask) → slice_get (paired_indices m) 0 ≡ slice_get (mask_indices 1 0 16 (mask_bits m.known)) 0
known_first m =
    let marks = λ (b : Bool). slice_get (cond b (mask_indices 1 0 16 (mask_bits m.known)) (indices_where (is_half_match_at (group_lanes m.both) m.byte) 16)) 0 in
    elim (cases_Bool m.is_whole) [
      | inl whole ↦ ap marks whole
      | inr not_whole ↦ ap marks not_whole ∙ first_marked (group_lanes m.both) m.byte (mask_bits m.known) (m.equal not_whole)
    ]

-- of two lists with the same first element, both have one or none has
pub both_some : (xs ys : List ℕ) → slice_get xs 0 ≡ slice_get ys 0 → 0 < length xs → 0 < length ys
both_some [] ys e l = absurd (omega arith)
both_some (x ∷ xs) [] e l = absurd (none-some x (sym e))
both_some (x ∷ xs) (y ∷ ys) e l = omega arith

pub chained_indices : (xs : List ℕ) (t m : ℕ) → Chains xs t 7 m → mask_indices 1 0 16 m ≡ indices_where (is_half_match_at xs t) 16
unfolding mask_indices indices_where
chained_indices xs t m h =
    range_agree _ _ 0 16 (λ k l b.
    let at : 1 * k + 0 ≡ k = omega arith in
    ap (λ j. eqb (bit_at m j) 1) at ∙ h k (omega arith) (omega arith))

-- bits that mark all of the match are the whole mask
pub whole_marks : (m : PairedMask) (bits : ℕ) → m.is_whole ≡ false → Chains (group_lanes m.both) m.byte 7 bits
    → mask_indices 1 0 16 bits ≡ paired_indices m
whole_marks m bits not_whole chains =
    let xs = group_lanes m.both in
    let marks = λ (b : Bool). cond b (mask_indices 1 0 16 (mask_bits m.known)) (indices_where (is_half_match_at xs m.byte) 16) in
    chained_indices xs m.byte bits chains ∙ sym (ap marks not_whole)
