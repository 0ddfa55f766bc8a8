-- The steps of a lookup over the strides, which ends in valid control bytes.
use Rattle.std.proofs.Common.{rules}
use Rattle.std.proofs.Common.{◌≡◌, ℕ, suc, ◌+◌, ◌*◌, ◌/◌, ◌%◌, ◌<◌, ◌≤◌, inl, inr, refl, sym, ap, ◌∙◌, arith, List, [], ◌∷◌, Bool, true, false, not, eqb, ltb, length, get_or, filter, take, drop, get_or-take, get_or-drop, Some, None}
use Rattle.std.proofs.lemmas.Grind.{common_steps}
use Rattle.std.specs.List.{Contains, find, list_any, position_or_len, range_with_len}
use Rattle.std.proofs.lemmas.List.FromFn.{get_or-range_with_len, length-range_with_len}
use Rattle.std.proofs.lemmas.List.Folds.{Any-from_list_any}
use Rattle.std.proofs.lemmas.Nat.{mod_below}
use Rattle.std.proofs.lemmas.Bool.{and_parts, cases_Bool, cases_eq, cases_lt, eq-eqb, le-leb, ltb-false, ltb-true, ne_eqb, not-false, not-true, or_from, or_left, or_parts, or_right}
use Rattle.rkyv_table.specs.{AreValidControls, IsFullBucket, IsFullInStride, candidates, control_count, ends_at, found, marked, probe_capacity, probe_length, start, stride_has_empty, strides, tag, walk}
use Rattle.rkyv_scan.specs.{IsKind, Kind}
use Rattle.rkyv_table.proofs.Coverage.{count_strides, covered, has_stride, stride_below}
use Rattle.rkyv_table.proofs.Lists.{any_member, any_range, contains_member, none_find, some_find}
use Rattle.rkyv_table.proofs.Search.{control_of, found_along, found_along_cons, mark_full}
use Rattle.rkyv_table.proofs.Walks.{full_walked}
use Rattle.rkyv_table.proofs.Written.{first_within}

module _ (kind : Kind) (controls : List ℕ) (cap t : ℕ) (accept : ℕ → Bool) where
  abbrev pub end_index : List ℕ → ℕ
  end_index ps = position_or_len (ends_at kind controls cap t accept) ps

  pub ends_by_item : (p b : ℕ) (ps qs : List ℕ) → qs ≡ p ∷ ps → find accept (candidates kind controls cap t p) ≡ Some b
      → (found_along kind controls cap t accept qs ≡ Some b) × (end_index qs ≡ 0)
  ends_by_item p b ps qs q h = grind (arith, common_steps, some_find, or_left, found_along_cons)

  pub ends_by_empty : (p : ℕ) (ps qs : List ℕ) → qs ≡ p ∷ ps → find accept (candidates kind controls cap t p) ≡ None → stride_has_empty controls p ≡ true
      → (found_along kind controls cap t accept qs ≡ None) × (end_index qs ≡ 0)
  ends_by_empty p ps qs q h s = grind (arith, common_steps)

  pub goes_on : (p : ℕ) (ps qs : List ℕ) → qs ≡ p ∷ ps → find accept (candidates kind controls cap t p) ≡ None → stride_has_empty controls p ≡ false
      → (found_along kind controls cap t accept qs ≡ found_along kind controls cap t accept ps) × (end_index qs ≡ 1 + end_index ps)
  goes_on p ps qs q h s = grind (arith, common_steps, none_find, or_from, found_along_cons)

-- ---- valid control bytes have an empty bucket, so some stride ends the search

full_filter : (P : ℕ → Bool) (xs : List ℕ) → list_any (λ x. not (P x)) xs ≡ false → length (filter P xs) ≡ length xs
full_filter P [] h = refl
full_filter P (x ∷ xs) h =
    let u = or_parts (not (P x)) (list_any (λ x. not (P x)) xs) h in
    rw (not-false (P x) u.0) (ap suc (full_filter P xs u.1))

pub empty_bucket : (cap len : ℕ) (controls : List ℕ) → AreValidControls cap len controls → (b : ℕ) × (b < cap) × (128 ≤ get_or controls b 0)
unfolding walk
empty_bucket cap len controls a =
    let P = λ (b : ℕ). ltb (get_or controls b 0) 128 in
    let l = length-range_with_len 0 cap in
    let room = a.room in
    let full = a.full in
    elim (cases_Bool (list_any (λ x. not (P x)) (range_with_len 0 cap))) [
      | inl t ↦
          let w = Any-from_list_any (λ x. not (P x)) (range_with_len 0 cap) t in
          grind (arith, common_steps, get_or-range_with_len, ltb-false, not-true)
      | inr f ↦ let e = full_filter P (range_with_len 0 cap) f in absurd (omega arith)
    ]

pub ends_somewhere : (kind : Kind) (controls : List ℕ) (cap len h t : ℕ) (accept : ℕ → Bool) → AreValidControls cap len controls
    → position_or_len (ends_at kind controls cap t accept) (strides h cap) < length (strides h cap)
unfolding stride_has_empty
ends_somewhere kind controls cap len h t accept a =
    let w = empty_bucket cap len controls a in
    let pos : 0 < cap = omega (arith, w.1) in
    let v = covered h cap w.0 w.1 in
    let p = v.0 in
    let q = v.1 in
    let below = (and_parts (ltb p (probe_capacity cap)) (eqb (p % 16) (start h cap % 16)) (sym (has_stride h cap p pos) ∙ v.2)).0 in
    let lp = ltb-true p (probe_capacity cap) below in
    let k = control_of cap controls q pos a.wrapped v.5 (omega arith) in
    let e : 128 ≤ get_or controls q 0 = rw (k, v.6) w.2 in
    search (rules, any_range, le-leb, or_right, first_within, any_member)

-- a full control byte of a stride belongs to a full bucket
pub stride_full : (cap len : ℕ) (controls stride : List ℕ) (p q : ℕ) → AreValidControls cap len controls → p < probe_capacity cap → q < 16 → stride ≡ take 16 (drop p controls) → get_or stride q 0 < 128
    → (p + q < 2 * cap) × IsFullBucket cap controls ((p + q) % cap)
stride_full cap len controls stride p q a lp lq e f = grind (arith, common_steps, get_or-take 16 (drop p controls) q 0 lq, get_or-drop p controls q 0, cases_lt (p + q) (2 * cap), mod_below, control_of)

-- the bucket of a full control byte of a stride
pub shown_full : (cap len : ℕ) (controls stride : List ℕ) (p : ℕ) → AreValidControls cap len controls → p < probe_capacity cap → stride ≡ take 16 (drop p controls) → (b : ℕ) → IsFullInStride stride p cap b → IsFullBucket cap controls b
shown_full cap len controls stride p a lp e b s = let k = stride_full cap len controls stride p s.0 a lp s.1 e s.2 in rw s.3 (k.1)

pub found_is : (kind : Kind) (controls : List ℕ) (cap len h : ℕ) (accept : ℕ → Bool) → (len ≡ 0 → ⊥) → found kind controls cap len h accept ≡ found_along kind controls cap (tag h) accept (strides h cap)
found_is kind controls cap len h accept n = rw (ne_eqb len 0 n) refl

pub end_is : (kind : Kind) (controls : List ℕ) (cap len h : ℕ) (accept : ℕ → Bool) → (len ≡ 0 → ⊥) → probe_length kind controls cap len h accept ≡ suc (end_index kind controls cap (tag h) accept (strides h cap))
end_is kind controls cap len h accept n = rw (ne_eqb len 0 n) refl

-- the bound: at most one stride for sixteen indices
pub end_within : (kind : Kind) (controls : List ℕ) (cap len h : ℕ) (accept : ℕ → Bool) → (0 < len → AreValidControls cap len controls) → probe_length kind controls cap len h accept ≤ probe_capacity cap / 16
end_within kind controls cap len h accept a = elim (cases_eq len 0) [
  | inl z ↦ rw (eq-eqb len 0 z) (omega arith)
  | inr n ↦
      let b = a (omega arith) in
      grind (arith, common_steps, end_is kind controls cap len h accept n, ends_somewhere kind controls cap len h (tag h) accept b, count_strides h cap (omega arith))
]

-- the bucket of a marked index is in the walk
pub marked_walked : (kind : Kind) (cap len h t p q : ℕ) (controls : List ℕ) → IsKind kind → AreValidControls cap len controls → t < 128 → Contains (strides h cap) p → p ≤ q → q < p + 16
    → marked kind controls t p q ≡ true → (q < 2 * cap) × Contains (walk controls cap) (q % cap)
marked_walked kind cap len h t p q controls law a small here lo hi mark =
    let room = a.room in
    let some : 0 < cap = omega arith in
    let lp = stride_below h cap p some (contains_member p (strides h cap) here) in
    let inside : q < control_count cap = omega arith in
    let full = mark_full kind law controls t p q small lo mark in
    let two : q < 2 * cap = elim (cases_lt q (2 * cap)) [
      | inl l ↦ l
      | inr over ↦ let n : 128 ≤ get_or controls q 0 = a.wrapped.past q over inside in absurd (omega arith)
    ] in
    let b = q % cap in
    let lb = mod_below q cap some in
    let full' : get_or controls b 0 < 128 = rw (control_of cap controls q some a.wrapped two inside) at full in
    (two, full_walked cap controls b (lb, full'))
