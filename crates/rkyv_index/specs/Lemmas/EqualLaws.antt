-- Equality of index maps is an equivalence.
use Rattle.std.specs.Prelude.{◌≡◌, ℕ, zero, suc, ◌+◌, ◌<◌, ◌≤◌, List, Bool, true, ◌==◌}
use Rattle.std.specs.Prelude.{unsigned_abs}
use Rattle.std.specs.Int.{Width}
use Rattle.std.specs.List.{list_all, range_with_len}
use Rattle.std.proofs.Common.{refl, arith, subst, sym, ◌∙◌, ap, inl, inr}
use Rattle.std.proofs.lemmas.Grind.{common_steps}
use Rattle.std.proofs.lemmas.Bool.{and_from, and_parts, cases_eq, eq-eqb, eqb-true}
use Rattle.rkyv_base.specs.{ElementSpec, IsElement, ValidAt}
use Rattle.rkyv_base.specs.Lemmas.ElementSpec.{valid_at}
use Rattle.rkyv_keys.specs.{Comparison, IsEquivalence}
use Rattle.rkyv_table.specs.{len_at}
use Rattle.rkyv_index.specs.{IsValidIndex, entries_pos, entry_at, index_equal, index_spec}
use Rattle.rkyv_index.specs.{indices_of, pair_pos, same_at}
use Rattle.rkyv_index.specs.Lemmas.IndexLaws.{each_is_valid, entry_inside}

-- `list_all f` of a range is `true` if and only if `f` is `true` for each number in it
all_from : (f : ℕ → Bool) (a n : ℕ) → ((i : ℕ) → a ≤ i → i < a + n → f i ≡ true) → list_all f
    (range_with_len a n) ≡ true
all_from f a zero h = refl
all_from f a (suc n) h =
    and_from (f a) (list_all f (range_with_len (a + 1) n)) (h a (omega arith) (omega arith))
    (all_from f (a + 1) n (λ i from to. h i (omega (arith, from)) (omega (arith, to))))

all_at : (f : ℕ → Bool) (a n : ℕ) → list_all f (range_with_len a n) ≡ true → (i : ℕ) → a ≤ i
    → i < a + n → f i ≡ true
all_at f a zero h i from to = absurd (omega arith)
all_at f a (suc n) h i from to =
    let t = and_parts (f a) (list_all f (range_with_len (a + 1) n)) h in
    elim (cases_eq a i) [
      | inl e ↦ subst (λ j. f j ≡ true) e t.0
      | inr ne ↦ all_at f (a + 1) n t.1 i (omega (arith, from, ne)) (omega (arith, to))
    ]

module _ (w : Width) (s : ElementSpec) (law : IsElement s) where
  -- a valid map has a valid entry at each index below its length
  entry_valid : (b : List ℕ) (p : ℕ) → ValidAt (index_spec w s) b p → (i : ℕ) → i < len_at w b p
      → ValidAt s b (pair_pos w s.size b p i)
  entry_valid b p h i below =
      let valid : IsValidIndex w s b p 0 p h.0 = h.1 in
      let begin = valid.entries.begin in
      let at : entries_pos w b p ≡ begin = sym (ap unsigned_abs valid.entries.part.begins) in
      let r =
      each_is_valid s law (entry_at s.size begin) b begin 0 (len_at w b p) valid.middle
      valid.entries.last i valid.entries.part.above valid.entries.valid (omega arith)
      (omega (arith, below)) in
      let u = entry_inside s.size begin (len_at w b p) i below in
      subst (λ n. ValidAt s b (entry_at s.size n i)) (sym at)
      (valid_at s law b (entry_at s.size begin i) r.lower begin r.rest r.below u.0 r.is_valid)

  module _ {same : Comparison} (e : IsEquivalence s same) where
    -- equal maps have the same length and the same entries
    parts : (b c : List ℕ) (p q : ℕ) → index_equal w s same b p c q ≡ true
        → (len_at w b p ≡ len_at w c q)
        × ((i : ℕ) → i < len_at w b p → same_at w s same b p c q i ≡ true)
    parts b c p q h =
        let t = and_parts (len_at w b p == len_at w c q) (list_all (same_at w s same b p c q)
        (indices_of (len_at w b p))) h in (
          eqb-true (len_at w b p) (len_at w c q) t.0,
          λ i below. all_at (same_at w s same b p c q) 0
              (len_at w b p) t.1 i (omega arith) (omega (arith, below)),
        )

    from : (b c : List ℕ) (p q : ℕ) → len_at w b p ≡ len_at w c q → ((i : ℕ) → i < len_at w b p
        → same_at w s same b p c q i ≡ true) → index_equal w s same b p c q ≡ true
    from b c p q n f = grind (arith, common_steps, and_from, eq-eqb, all_from)

    pub index_equivalence : IsEquivalence (index_spec w s) (index_equal w s same)
    index_equivalence = record {
      reflexive = λ b p h. from b b p p refl (λ i below. e.reflexive b (pair_pos w s.size b p i)
          (entry_valid b p h i below));
      symmetric = λ b c p q h g x.
          let t = parts b c p q x in
          from c b q p (sym t.0) (λ i below.
          let n : i < len_at w b p = omega (arith, below, t.0) in
          e.symmetric b c (pair_pos w s.size b p i) (pair_pos w s.size c q i) (entry_valid b p h
          i n) (entry_valid c q g i below) (t.1 i n));
      transitive = λ b c d p q r h g j x y.
          let t = parts b c p q x in
          let u = parts c d q r y in
          from b d p r (t.0 ∙ u.0) (λ i below.
          let n : i < len_at w c q = omega (arith, below, t.0) in
          let n' : i < len_at w d r = omega (arith, n, u.0) in
          e.transitive b c d (pair_pos w s.size b p i) (pair_pos w s.size c q i)
          (pair_pos w s.size d r i) (entry_valid b p h i below) (entry_valid c q g i n)
          (entry_valid d r j i n') (t.1 i below) (u.1 i n));
    }
