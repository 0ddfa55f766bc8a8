-- The steps of a walk.
use Rattle.std.proofs.Common.{◌≡◌, ℕ, zero, suc, ◌+◌, ◌-◌, ◌<◌, ◌≤◌, inl, inr, refl, sym, ap, ◌∙◌, arith, List, [], ◌∷◌, ◌++◌, Bool, eqb, ltb, map, filter, drop, take, length, get_or, Some, None, get_or-take, get_or-drop}
use Rattle.std.proofs.lemmas.Grind.{common_steps}
use Rattle.std.specs.List.{Contains, list_any, range_with_len, slice_get}
use Rattle.std.proofs.lemmas.Bool.{and_from, and_parts, cases_Bool, cases_eq, cases_lt, eq-eqb, le-ltb, lt-ltb, ltb-true}
use Rattle.std.proofs.lemmas.Option.{none-some, same_Some}
use Rattle.std.proofs.lemmas.List.Sums.{count_by-le-length, length-filter}
use Rattle.std.proofs.lemmas.List.FromFn.{length-range_with_len}
use Rattle.rkyv_table.specs.{IsFullBucket, IsWalk, control_count, first_index, full_from, left, walk}
use Rattle.rkyv_scan.specs.{indices_where}
use Rattle.rkyv_scan.proofs.Indices.{range_agree, range_none}
use Rattle.rkyv_table.proofs.Groups.{filter_shift}
use Rattle.rkyv_table.proofs.FirstFree.{head_filter}
use Rattle.rkyv_table.proofs.Lists.{FirstIn, any_filter, any_range, contains_member, first_range, in_range, member_contains}

cut : (F : ℕ → Bool) (cap a n : ℕ) → filter (λ q. ltb q cap) (filter F (range_with_len a n)) ++ filter F (range_with_len (a + n) (cap - (a + n))) ≡ filter F (range_with_len a (cap - a))
cut F cap a zero = let e : a + 0 ≡ a = omega arith in rw e refl
cut F cap a (suc n) =
    let e : a + suc n ≡ a + 1 + n = omega arith in
    let ih = cut F cap (a + 1) n in
    elim (cases_lt a cap) [
      | inl l ↦
          let t = lt-ltb a cap l in
          let d : cap - a ≡ suc (cap - (a + 1)) = omega arith in
          grind (arith, common_steps, cases_Bool)
      | inr g ↦ grind (arith, common_steps, le-ltb, cases_Bool)
    ]

-- ---- the indices of the mask are all full ones from some index on

pub record WalkFrom (controls : List ℕ) (cap base width : ℕ) (indices : List ℕ) : Type 0 where
  pub count : control_count cap ≤ length controls
  pub below : base ≤ cap
  pub next : ℕ
  pub inside : next ≤ width
  pub marks : indices ≡ filter (λ j. ltb (get_or controls (base + j) 0) 128) (range_with_len next (width - next))

pub walk_from : (controls : List ℕ) (cap base width : ℕ) (indices : List ℕ) → IsWalk controls cap base width indices → WalkFrom controls cap base width indices
walk_from controls cap base width indices w = record { count = w.count; below = w.below; next = first_index width indices; inside = w.inside; marks = w.marks }

-- a filtered range begins at its first element
head_range : (P : ℕ → Bool) (a n : ℕ) → (a ≤ get_or (filter P (range_with_len a n)) 0 (a + n)) × (get_or (filter P (range_with_len a n)) 0 (a + n) ≤ a + n)
    × (filter P (range_with_len a n) ≡ filter P (range_with_len (get_or (filter P (range_with_len a n)) 0 (a + n)) (a + n - get_or (filter P (range_with_len a n)) 0 (a + n))))
head_range P a zero = let z : a + 0 - (a + 0) ≡ 0 = omega arith in (omega arith, omega arith, rw z refl)
head_range P a (suc n) =
    let e : a + suc n ≡ a + 1 + n = omega arith in
    elim (cases_Bool (P a)) [
      | inl t ↦ let d : a + suc n - a ≡ suc n = omega arith in rw t (omega arith, omega arith, rw (d, t) refl)
      | inr f ↦ let ih = head_range P (a + 1) n in rw (f, e) (omega (arith, ih.0), ih.1, ih.2)
    ]

pub walk_of : (controls : List ℕ) (cap base width : ℕ) (indices : List ℕ) → WalkFrom controls cap base width indices → IsWalk controls cap base width indices
walk_of controls cap base width indices w =
    let P = λ (j : ℕ). ltb (get_or controls (base + j) 0) 128 in
    grind (arith, common_steps, head_range P w.next (width - w.next))

-- the remaining buckets are the full buckets from an index on
pub left_is : (controls : List ℕ) (cap base width : ℕ) (indices : List ℕ) → (w : WalkFrom controls cap base width indices) → left controls cap base width indices ≡ full_from controls cap (base + w.next)
unfolding left full_from
left_is controls cap base width indices w =
    let inside = w.inside in
    let F = λ (q : ℕ). ltb (get_or controls q 0) 128 in
    let s = filter_shift F (λ j. F (base + j)) base w.next (width - w.next) (λ j lo hi. refl) in
    grind (arith, common_steps, cut F cap (base + w.next) (width - w.next))

-- ---- an index is taken

pub takes_index : (controls : List ℕ) (cap base width j : ℕ) (indices : List ℕ) → Some j ≡ slice_get indices 0 → base + j < cap → left controls cap base width indices ≡ (base + j) ∷ left controls cap base width (drop 1 indices)
unfolding left
takes_index controls cap base width j [] e h = absurd (none-some j (sym e))
takes_index controls cap base width j (x ∷ xs) e h = grind (arith, common_steps, same_Some, lt-ltb)

drop_first : (P : ℕ → Bool) (a n q : ℕ) → FirstIn P a n q → drop 1 (filter P (range_with_len a n)) ≡ filter P (range_with_len (q + 1) (a + n - (q + 1)))
drop_first P a zero q f = absurd (omega (arith, f.from, f.to))
drop_first P a (suc n) q f = elim (cases_eq a q) [
  | inl s ↦ grind (arith, common_steps)
  | inr d ↦
      let lo = f.from in
      let hi = f.to in
      let t = f.no a (omega arith) (omega arith) in
      let e : a + suc n - (q + 1) ≡ a + 1 + n - (q + 1) = omega arith in
      rw (t, e) (drop_first P (a + 1) n q (record { from = omega arith; to = omega arith; yes = f.yes; no = λ i l g. f.no i (omega arith) g }))
]

first_left : (controls : List ℕ) (cap base width j : ℕ) (indices : List ℕ) (w : WalkFrom controls cap base width indices) → Some j ≡ slice_get indices 0 → FirstIn (λ i. ltb (get_or controls (base + i) 0) 128) w.next (width - w.next) j
first_left controls cap base width j indices w e = grind (arith, common_steps, filter, first_range, head_filter)

pub head_inside : (controls : List ℕ) (cap base width j : ℕ) (indices : List ℕ) → IsWalk controls cap base width indices → Some j ≡ slice_get indices 0 → j < width
head_inside controls cap base width j indices w e = grind (arith, common_steps)

pub keeps_walk : (controls : List ℕ) (cap base width j : ℕ) (indices rest : List ℕ) → IsWalk controls cap base width indices → Some j ≡ slice_get indices 0 → rest ≡ drop 1 indices → IsWalk controls cap base width rest
keeps_walk controls cap base width j indices rest is e r =
    let P = λ (i : ℕ). ltb (get_or controls (base + i) 0) 128 in
    let w = walk_from controls cap base width indices is in
    let f = first_left controls cap base width j indices w e in
    let inside = w.inside in
    let hi = f.to in
    let n : w.next + (width - w.next) - (j + 1) ≡ width - (j + 1) = omega arith in
    walk_of controls cap base width rest (record {
      count = w.count;
      below = w.below;
      next = j + 1;
      inside = omega arith;
      marks = r ∙ ap (drop 1) w.marks ∙ drop_first P w.next (width - w.next) j f ∙ ap (λ z. filter P (range_with_len (j + 1) z)) n;
    })

-- ---- the end

pub ends_past : (controls : List ℕ) (cap base width j : ℕ) (indices : List ℕ) → WalkFrom controls cap base width indices → Some j ≡ slice_get indices 0 → cap ≤ base + j → left controls cap base width indices ≡ []
unfolding full_from
ends_past controls cap base width j indices w e h =
    let f = first_left controls cap base width j indices w e in
    let lo = f.from in
    left_is controls cap base width indices w
    ∙ range_none (λ q. ltb (get_or controls q 0) 128) (base + w.next) (cap - (base + w.next)) (λ q l u.
    let n = f.no (q - base) (omega arith) (omega arith) in
    let b : base + (q - base) ≡ q = omega arith in
    rw b at n)

no_indices : (indices : List ℕ) → None ≡ slice_get indices 0 → indices ≡ []
no_indices [] e = refl
no_indices (x ∷ xs) e = absurd (none-some x e)

pub left_none : (controls : List ℕ) (cap base width : ℕ) (indices : List ℕ) → None ≡ slice_get indices 0 → left controls cap base width indices ≡ full_from controls cap (base + width)
unfolding left
left_none controls cap base width indices e = ap (λ xs. filter (λ q. ltb q cap) (map (λ j. base + j) xs) ++ full_from controls cap (base + width)) (no_indices indices e)

pub full_end : (controls : List ℕ) (cap b : ℕ) → cap ≤ b → full_from controls cap b ≡ []
unfolding full_from
full_end controls cap b h = let e : cap - b ≡ 0 = omega arith in rw e refl

pub ends_last : (controls : List ℕ) (cap base width : ℕ) (indices : List ℕ) → None ≡ slice_get indices 0 → cap ≤ base + width → left controls cap base width indices ≡ []
ends_last controls cap base width indices e h = left_none controls cap base width indices e ∙ full_end controls cap (base + width) h

pub ends_full : (controls : List ℕ) (cap base width : ℕ) (indices : List ℕ) → WalkFrom controls cap base width indices → cap ≤ base → left controls cap base width indices ≡ []
ends_full controls cap base width indices w h = left_is controls cap base width indices w ∙ full_end controls cap (base + w.next) (omega arith)

-- ---- a group

unfoldable pub group_walk : (controls g : List ℕ) (cap base width : ℕ) (indices : List ℕ) → control_count cap ≤ length controls → base ≤ cap → g ≡ take width (drop base controls) → indices ≡ indices_where (λ j. ltb (get_or g j 0) 128) width → WalkFrom controls cap base width indices
unfolding indices_where
group_walk controls g cap base width indices n h e p =
    let z : width - 0 ≡ width = omega arith in
    record {
      count = n;
      below = h;
      next = 0;
      inside = omega arith;
      marks = p ∙ range_agree (λ j. ltb (get_or g j 0) 128) (λ j. ltb (get_or controls (base + j) 0) 128) 0 width (λ j lo hi.
          let x = get_or-take width (drop base controls) j 0 (omega arith) in
          let y = get_or-drop base controls j 0 in
          rw (e, x, y) refl)
          ∙ ap (λ n. filter (λ j. ltb (get_or controls (base + j) 0) 128) (range_with_len 0 n)) (sym z);
    }

-- the remaining buckets of a group that is read anew
pub left_group : (controls g : List ℕ) (cap base width : ℕ) (indices : List ℕ) → control_count cap ≤ length controls → base ≤ cap → g ≡ take width (drop base controls) → indices ≡ indices_where (λ j. ltb (get_or g j 0) 128) width
    → left controls cap base width indices ≡ full_from controls cap base
unfolding group_walk
left_group controls g cap base width indices n h e p = grind (arith, common_steps, left_is controls cap base width indices (group_walk controls g cap base width indices n h e p))

pub whole_walk : (controls : List ℕ) (cap : ℕ) → full_from controls cap 0 ≡ walk controls cap
unfolding full_from walk
whole_walk controls cap = let z : cap - 0 ≡ cap = omega arith in rw z refl

pub walk_none : (controls : List ℕ) → walk controls 0 ≡ []
unfolding walk
walk_none controls = refl

pub walk_small : (controls : List ℕ) (cap : ℕ) → length (walk controls cap) ≤ cap
unfolding walk
walk_small controls cap = grind (arith, common_steps, length-filter, count_by-le-length, length-range_with_len)

-- ---- the buckets of a walk are the full ones

pub full_walked : (cap : ℕ) (controls : List ℕ) (b : ℕ) → IsFullBucket cap controls b → Contains (walk controls cap) b
unfolding walk
full_walked cap controls b f = grind (arith, common_steps, any_range (eqb b) 0 cap b (omega arith) (omega (arith, f.0)) (eq-eqb b b refl), eq-eqb b b refl, lt-ltb (get_or controls b 0) 128 f.1, member_contains, any_filter, and_from)

pub walked_full : (cap : ℕ) (controls : List ℕ) (b : ℕ) → Contains (walk controls cap) b → IsFullBucket cap controls b
unfolding walk
walked_full cap controls b c =
    let F = λ (x : ℕ). ltb (get_or controls x 0) 128 in
    let t = and_parts (list_any (eqb b) (range_with_len 0 cap)) (F b) (sym (any_filter b F (range_with_len 0 cap)) ∙ contains_member b (filter F (range_with_len 0 cap)) c) in
    (in_range cap b t.0, ltb-true (get_or controls b 0) 128 t.1)
