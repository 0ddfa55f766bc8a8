-- A write among the parts of one of several items keeps them all.
use Rattle.std.proofs.lemmas.Grind.{common_steps}
use Rattle.std.proofs.Common.{◌≡◌, ◌≢◌, ℕ, zero, suc, ◌+◌, ◌-◌, ◌<◌, ◌≤◌, sym, subst, arith, inl, inr, List, [], ◌∷◌, Bool, true, false, filter}
use Rattle.std.specs.List.{range_with_len}
use Rattle.std.proofs.lemmas.Bool.{both_ways, cases_Bool, cases_eq, cases_lt}
use Rattle.rkyv_base.specs.{AgreeOn, ElementSpec, IsElement, ModifiesOnly}
use Rattle.rkyv_base.specs.Lemmas.Bytes.{agree_on_part}
use Rattle.rkyv_base.proofs.Sealing.{same_outside, sealed_wider}
use Rattle.rkyv_table.specs.{AreValidAt, IsValidBefore, IsValidWithin, StaysAt, WritesAmongParts, within_lower}
use Rattle.rkyv_table.specs.Lemmas.ItemPositions.{each_is_valid}
use Rattle.rkyv_table.specs.Lemmas.ValidItemLaws.{all_between}

-- the bytes before the lower end and those from the upper end on are the same
module _ (b c : List ℕ) (lo l : ℕ) (o : lo ≤ l) (sealed : ModifiesOnly b lo (l - lo) c) where
  pub same_below : (i j : ℕ) → i ≤ j → j ≤ lo → AgreeOn b c i j
  same_below i j ij h = same_outside b lo (l - lo) c sealed i j ij (inl h)

  pub same_above : (i j : ℕ) → i ≤ j → l ≤ i → AgreeOn b c i j
  same_above i j ij h = same_outside b lo (l - lo) c sealed i j ij (inr (omega arith))

-- two valid values in turn: the parts of the first are before the second's
record InTurn (s : ElementSpec) (b : List ℕ) (q r lo hi l : ℕ) : Type 0 where
  pub first : IsValidWithin s b q lo hi l
  pub second : IsValidWithin s b r lo hi l
  pub turn : first.rest ≤ second.lower

module _ (s : ElementSpec) (law : IsElement s) (at : ℕ → ℕ) where
  each_in_turn : (P : ℕ → Bool) (b : List ℕ) (hi a n lo l i j : ℕ) → lo ≤ hi → AreValidAt s at b hi (filter P (range_with_len a n)) lo l
      → a ≤ i → i < j → j < a + n → P i ≡ true → P j ≡ true → InTurn s b (at i) (at j) lo hi l
  each_in_turn P b hi a zero lo l i j o h from less to t t' = absurd (omega arith)
  each_in_turn P b hi a (suc n) lo l i j o h from less to t t' = elim (cases_Bool (P a)) [
    | inl y ↦
        let h' : AreValidAt s at b hi (a ∷ filter P (range_with_len (a + 1) n)) lo l = rw y at h in
        let k : (lo ≤ h'.0) × (h'.0 ≤ hi) = law.rest_in_range b (at a) lo hi h'.0 o h'.1 in
        let after = all_between s law at b hi (filter P (range_with_len (a + 1) n)) h'.0 l k.1 h'.2 in
        elim (cases_eq a i) [
          | inl e ↦
              let r = each_is_valid s law at P b hi (a + 1) n h'.0 l j k.1 h'.2 (omega arith) (omega arith) t' in
              subst (λ z. InTurn s b (at z) (at j) lo hi l) e (record {
                first = record { lower = lo; rest = h'.0; above = omega arith; below = o; ends = after.0; is_valid = h'.1 };
                second = within_lower s b (at j) h'.0 lo hi l k.0 r;
                turn = r.above;
              })
          | inr ne ↦
              let r = each_in_turn P b hi (a + 1) n h'.0 l i j k.1 h'.2 (omega arith) less (omega arith) t t' in
              record {
                first = within_lower s b (at i) h'.0 lo hi l k.0 r.first;
                second = within_lower s b (at j) h'.0 lo hi l k.0 r.second;
                turn = r.turn;
              }
        ]
    | inr y ↦
        let h' : AreValidAt s at b hi (filter P (range_with_len (a + 1) n)) lo l = rw y at h in
        elim (cases_eq a i) [
          | inl e ↦ let y' : P i ≡ false = subst (λ z. P z ≡ false) e y in absurd (both_ways (P i) y' t)
          | inr ne ↦ each_in_turn P b hi (a + 1) n lo l i j o h' (omega arith) less (omega arith) t t'
        ]
  ]

  module _ (b c : List ℕ) (hi : ℕ) (fixed : (j : ℕ) → AgreeOn b c (at j) (at j + s.size)) where
    -- if all parts are the same, all items stay valid
    chain_stays : (is : List ℕ) (lo l : ℕ) → lo ≤ hi → AgreeOn b c lo hi → AreValidAt s at b hi is lo l → AreValidAt s at c hi is lo l
    chain_stays [] lo l o same h = h
    chain_stays (j ∷ is) lo l o same h =
        let k : (lo ≤ h.0) × (h.0 ≤ hi) = law.rest_in_range b (at j) lo hi h.0 o h.1 in grind (arith, common_steps, agree_on_part, chain_stays is h.0 l k.1 (agree_on_part b c lo hi h.0 hi k.0 (omega arith) k.1 same) h.2)

    -- if the parts of one item were written, all items stay valid, and the bytes
    -- before all parts are the same
    chain_kept : (P : ℕ → Bool) (a n lo l i : ℕ) → lo ≤ hi → hi ≤ at i → WritesAmongParts s b c (at i) → AreValidAt s at b hi (filter P (range_with_len a n)) lo l
        → a ≤ i → i < a + n → P i ≡ true → AreValidAt s at c hi (filter P (range_with_len a n)) lo l × AgreeOn b c 0 lo
    chain_kept P a zero lo l i o up writes h from to t = absurd (omega arith)
    chain_kept P a (suc n) lo l i o up writes h from to t = elim (cases_Bool (P a)) [
      | inl y ↦
          let h' : AreValidAt s at b hi (a ∷ filter P (range_with_len (a + 1) n)) lo l = rw y at h in
          let m : ℕ = h'.0 in
          let k : (lo ≤ m) × (m ≤ hi) = law.rest_in_range b (at a) lo hi m o h'.1 in
          elim (cases_eq a i) [
            | inl e ↦
                let here : s.is_valid b (at i) lo hi m = subst (λ z. s.is_valid b (at z) lo hi m) e h'.1 in
                let sealed = writes.sealed lo hi m o up here in
                let there : s.is_valid c (at a) lo hi m = subst (λ z. s.is_valid c (at z) lo hi m) (sym e) (writes.is_valid lo hi m o up here) in
                let rest = chain_stays (filter P (range_with_len (a + 1) n)) m l k.1 (same_above b c lo m k.0 sealed m hi k.1 (omega arith)) h'.2 in
                rw y ((m, there, rest), same_below b c lo m k.0 sealed 0 lo (omega arith) (omega arith))
            | inr ne ↦
                let r = chain_kept P (a + 1) n m l i k.1 up writes h'.2 (omega arith) (omega arith) t in
                let there = law.local b c (at a) lo hi m o (fixed a) (agree_on_part b c 0 m lo m (omega arith) (omega arith) k.0 r.1) h'.1 in
                rw y ((m, there, r.0), agree_on_part b c 0 m 0 lo (omega arith) k.0 (omega arith) r.1)
          ]
      | inr y ↦
          let h' : AreValidAt s at b hi (filter P (range_with_len (a + 1) n)) lo l = rw y at h in
          elim (cases_eq a i) [
            | inl e ↦ let y' : P i ≡ false = subst (λ z. P z ≡ false) e y in absurd (both_ways (P i) y' t)
            | inr ne ↦ rw y (chain_kept P (a + 1) n lo l i o up writes h' (omega arith) (omega arith) t)
          ]
    ]

  -- the items `j` below `n` with `P j`, valid in order. Item `i` is written among its parts
  module _ (P : ℕ → Bool) (b c : List ℕ) (hi n lo l : ℕ) (o : lo ≤ hi) (valid : AreValidAt s at b hi (filter P (range_with_len 0 n)) lo l) (up : (j : ℕ) → hi ≤ at j)
      (i : ℕ) (below : i < n) (is : P i ≡ true) (writes : WritesAmongParts s b c (at i)) where
    abbrev own : IsValidWithin s b (at i) lo hi l
    own = each_is_valid s law at P b hi 0 n lo l i o valid (omega arith) (omega (arith, below)) is

    own_between : (own.lower ≤ own.rest) × (own.rest ≤ hi)
    own_between = law.rest_in_range b (at i) own.lower hi own.rest own.below own.is_valid

    sealed_at : (h : IsValidWithin s b (at i) lo hi l) → ModifiesOnly b h.lower (h.rest - h.lower) c
    sealed_at h = writes.sealed h.lower hi h.rest h.below (up i) h.is_valid

    -- only bytes of the parts change
    pub sealed_parts : ModifiesOnly b lo (l - lo) c
    sealed_parts = let above = own.above in let ends = own.ends in sealed_wider b c own.lower (own.rest - own.lower) lo (l - lo) above (omega (arith, above, ends, own_between.0)) (sealed_at own)

    -- from the end of all parts on, the bytes are the same
    pub above_same : (x y : ℕ) → x ≤ y → hi ≤ x → AgreeOn b c x y
    above_same x y less h = same_above b c own.lower own.rest own_between.0 (sealed_at own) x y less (omega (arith, own_between.1))

    item_fixed : (j : ℕ) → AgreeOn b c (at j) (at j + s.size)
    item_fixed j = above_same (at j) (at j + s.size) (omega arith) (up j)

    -- all items stay valid, and the bytes before all parts are the same
    pub items_kept : AreValidAt s at c hi (filter P (range_with_len 0 n)) lo l × AgreeOn b c 0 lo
    items_kept = chain_kept b c hi item_fixed P 0 n lo l i o (up i) writes valid (omega arith) (omega (arith, below)) is

    abbrev valid_before : (j : ℕ) → IsValidWithin s b (at j) lo hi l → IsValidBefore s b (at j)
    valid_before j h = record { lower = h.lower; upper = hi; rest = h.rest; order = h.below; before = up j; is_valid = h.is_valid }

    pub own_before : IsValidBefore s b (at i)
    own_before = valid_before i own

    stays : (j : ℕ) (h : IsValidWithin s b (at j) lo hi l) → AgreeOn b c h.lower h.rest → StaysAt s b c (at j)
    stays j h parts = record { valid = valid_before j h; fixed = item_fixed j; parts = parts }

    -- each other item is unchanged
    pub other_stays : (j : ℕ) → j < n → P j ≡ true → j ≢ i → StaysAt s b c (at j)
    other_stays j less is' ne = elim (cases_lt j i) [
      | inl before ↦
          let t = each_in_turn P b hi 0 n lo l j i o valid (omega arith) before (omega (arith, below)) is' is in
          let turn = t.turn in
          let k = law.rest_in_range b (at j) t.first.lower hi t.first.rest t.first.below t.first.is_valid in
          let m = law.rest_in_range b (at i) t.second.lower hi t.second.rest t.second.below t.second.is_valid in
          stays j t.first (same_below b c t.second.lower t.second.rest m.0 (sealed_at t.second) t.first.lower t.first.rest k.0 turn)
      | inr from ↦
          let t = each_in_turn P b hi 0 n lo l i j o valid (omega arith) (omega (arith, ne)) (omega (arith, less)) is is' in
          let turn = t.turn in
          let k = law.rest_in_range b (at i) t.first.lower hi t.first.rest t.first.below t.first.is_valid in
          let m = law.rest_in_range b (at j) t.second.lower hi t.second.rest t.second.below t.second.is_valid in
          stays j t.second (same_above b c t.first.lower t.first.rest k.0 (sealed_at t.first) t.second.lower t.second.rest m.0 turn)
    ]
