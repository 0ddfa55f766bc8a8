-- Lemmas: the positions of the items of a valid table, by the position of its buckets.
use Rattle.std.proofs.Common.{◌≡◌, ℕ, zero, suc, ◌+◌, ◌*◌, ◌<◌, ◌≤◌, ap, subst, rules}
use Rattle.std.proofs.Common.{arith, inl, inr, List, ◌∷◌, Bool, true, false, filter, slice_index}
use Rattle.std.proofs.Common.{slice_range, pos}
use Rattle.std.proofs.lemmas.Grind.{common_steps}
use Rattle.std.specs.Int.{Width}
use Rattle.std.specs.List.{range_with_len}
use Rattle.std.proofs.Math.Nat.{add-mul}
use Rattle.std.proofs.lemmas.Bool.{both_ways, cases_Bool, cases_eq, lt-ltb}
use Rattle.std.proofs.lemmas.Int.{ints}
use Rattle.rkyv_base.specs.{ElementSpec, IsElement}
use Rattle.rkyv_scan.specs.{is_full}
use Rattle.rkyv_table.specs.{AreValidAt, AreValidItems, IsValidTable, IsValidWithin, IsWalked}
use Rattle.rkyv_table.specs.{ValidPart, bucket_at, cap_at, control_count, controls_at, controls_pos}
use Rattle.rkyv_table.specs.{decode_begin, item_at, table_controls, walk, within_lower}
use Rattle.rkyv_table.specs.Lemmas.ValidItemLaws.{all_between}
use Rattle.rkyv_table.specs.Lemmas.TableLaws.{bucket_inside}

module _ (s : ElementSpec) (law : IsElement s) (at : ℕ → ℕ) where
  -- each of several values that are valid in order is valid within the range
  pub each_is_valid : (P : ℕ → Bool) (b : List ℕ) (hi a n lo l i : ℕ) → lo ≤ hi
      → AreValidAt s at b hi (filter P (range_with_len a n)) lo l → a ≤ i → i < a + n → P i ≡ true
      → IsValidWithin s b (at i) lo hi l
  each_is_valid P b hi a zero lo l i o h from to t = absurd (omega arith)
  each_is_valid P b hi a (suc n) lo l i o h from to t = elim (cases_Bool (P a)) [
    | inl y ↦
        let h' : AreValidAt s at b hi (a ∷ filter P (range_with_len (a + 1) n)) lo l = rw y at h in
        let k : (lo ≤ h'.0) × (h'.0 ≤ hi) = law.rest_in_range b (at a) lo hi h'.0 o h'.1 in
        let after =
        all_between s law at b hi (filter P (range_with_len (a + 1) n)) h'.0 l k.1 h'.2 in
        elim (cases_eq a i) [
          | inl e ↦ grind (arith, common_steps)
          | inr ne ↦
              within_lower s b (at i) h'.0 lo hi l k.0
              (each_is_valid P b hi (a + 1) n h'.0 l i k.1 h'.2 (omega arith) (omega arith) t)
        ]
    | inr y ↦
        let h' : AreValidAt s at b hi (filter P (range_with_len (a + 1) n)) lo l = rw y at h in
        elim (cases_eq a i) [
          | inl e ↦ let y' : P i ≡ false = subst (λ z. P z ≡ false) e y in
              absurd (both_ways (P i) y' t)
          | inr ne ↦ each_is_valid P b hi (a + 1) n lo l i o h' (omega arith) (omega arith) t
        ]
  ]

-- the item in a full bucket is valid within the range
pub bucket_is_valid_within : (s : ElementSpec) → IsElement s → (b : List ℕ) (begin cap lo l i : ℕ)
    → lo ≤ begin → AreValidItems s b begin cap lo l → i < cap
    → slice_index (controls_at s.size b begin cap) i < 128
    → IsValidWithin s b (bucket_at s.size begin cap i) lo begin l
unfolding walk
bucket_is_valid_within s law b begin cap lo l i o h below full =
    each_is_valid s law (bucket_at s.size begin cap) (λ j.
    is_full (slice_index (controls_at s.size b begin cap) j)) b begin 0 cap lo l i o h
    (omega arith) (omega arith)
    (lt-ltb (slice_index (controls_at s.size b begin cap) i) 128 full)

module _ (w : Width) (size : ℕ) (b : List ℕ) (p begin : ℕ) (decoded : pos begin
    ≡ decode_begin w size b p) where
  -- the position of the control bytes
  pub decoded_pos : controls_pos w b p ≡ begin + cap_at w b p * size
  decoded_pos = grind (arith, ints)

  pub decoded_controls : table_controls w b p ≡ controls_at size b begin (cap_at w b p)
  decoded_controls = ap (λ z. slice_range b z (z + control_count (cap_at w b p))) decoded_pos

  -- the position of an item
  pub decoded_item : (i : ℕ) → i < cap_at w b p
      → item_at w size b p i ≡ bucket_at size begin (cap_at w b p) i
  decoded_item i h = grind (arith, common_steps, add-mul, decoded_pos)

module _ (w : Width) (s : ElementSpec) (law : IsElement s) (b : List ℕ) (p lo hi l : ℕ)
    (h : IsValidTable w s b p lo hi l) where
  pub valid_part : 0 < cap_at w b p → ValidPart w s b p lo hi l
  valid_part some = search rules

  -- the item in a full bucket is valid, and is before the control bytes
  pub item_is_valid : (i : ℕ) → IsWalked w b p i → (t : ValidPart w s b p lo hi l)
      → IsValidWithin s b (item_at w s.size b p i) lo t.begin t.begin
      × (t.begin ≤ item_at w s.size b p i) × (item_at w s.size b p i + s.size ≤ l)
  item_is_valid i walked t =
      let cap = cap_at w b p in
      let decoded = t.part.begins in
      let full : slice_index (controls_at s.size b t.begin cap) i < 128 =
      subst (λ (xs : List ℕ). slice_index xs i
      < 128) (decoded_controls w s.size b p t.begin decoded) walked.1 in
      let above = t.part.above in
      grind (
        arith,
        common_steps,
        all_between s law (bucket_at s.size t.begin cap) b t.begin
            (walk (controls_at s.size b t.begin cap) cap) lo t.is.last above t.is.items,
        bucket_is_valid_within s law b t.begin cap lo t.is.last i above t.is.items walked.0 full,
        bucket_inside s.size t.begin cap i walked.0,
        decoded_item w s.size b p t.begin decoded i walked.0,
      )
