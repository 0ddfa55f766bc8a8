-- Placing: the first empty index of a stride, and the first of all strides.
use Rattle.std.proofs.Common.{◌≡◌, ℕ, zero, suc, ◌+◌, ◌*◌, ◌-◌, ◌%◌, ◌<◌, ◌≤◌, ◌⊎◌, inl, inr, refl, sym, ap, ◌∙◌, arith, List, [], ◌∷◌, Bool, true, false, ◌&&◌, eqb, leb, ltb, get_or, take, drop, filter, Option, Some, None, rules}
use Rattle.std.proofs.lemmas.Grind.{common_steps}
use Rattle.std.specs.List.{find, flat_map, list_any, range_with_len, slice_get}
use Rattle.std.specs.Option.{option_map}
use Rattle.std.proofs.lemmas.List.Folds.{find-append}
use Rattle.std.proofs.lemmas.Bool.{and_from, and_left, and_right, both_ways, cases_Bool, cases_lt, eq-eqb, false_from_ne_true, le-leb, le-ltb, lt-ltb, or_left, or_right}
use Rattle.rkyv_scan.specs.{indices_where}
use Rattle.rkyv_table.specs.{HasRoom, IsWrapped, buckets_at, control_count, empty_index, is_empty_at, probe_capacity, probed, start, stride_has_empty, strides}
use Rattle.rkyv_table.proofs.Coverage.{covered, stride_below}
use Rattle.rkyv_table.proofs.Search.{cases_option, control_of, strides_head, tail_shows_all}
use Rattle.rkyv_table.proofs.Groups.{range_append, same_control}
use Rattle.rkyv_table.proofs.Written.{find_buckets, taken_at}
use Rattle.rkyv_table.proofs.Lists.{any_flat_map, any_map_filter, any_member, any_range, find_none, first_range, none_find, none_range, range_first, some_find}

-- ---- one stride

pub head_filter : (P : ℕ → Bool) (xs : List ℕ) → slice_get (filter P xs) 0 ≡ find P xs
head_filter P [] = refl
head_filter P (x ∷ xs) = elim (cases_Bool (P x)) [ inl t ↦ rw t refl | inr e ↦ rw e (head_filter P xs) ]

find_shift : (P P' : ℕ → Bool) (c i n : ℕ) → ((j : ℕ) → i ≤ j → j < i + n → P (c + j) ≡ P' j) → find P (range_with_len (c + i) n) ≡ option_map (λ j. c + j) (find P' (range_with_len i n))
find_shift P P' c i zero h = refl
find_shift P P' c i (suc n) h =
    let e = h i (omega arith) (omega arith) in
    let f : c + i + 1 ≡ c + (i + 1) = omega arith in
    let ih = find_shift P P' c (i + 1) n (λ j lo hi. h j (omega arith) (omega arith)) in
    elim (cases_Bool (P' i)) [ inl t ↦ rw (e, t) refl | inr t ↦ rw (e, t, f, ih) refl ]

-- one group more. `g`: its control bytes, `i`: its number
pub more_indices : (controls g : List ℕ) (p i w : ℕ) (r : Option ℕ) → g ≡ take w (drop (p + i * w) controls) → find (is_empty_at controls) (range_with_len p (i * w)) ≡ None
    → r ≡ slice_get (filter (λ j. leb 128 (get_or g j 0)) (range_with_len 0 w)) 0
    → find (is_empty_at controls) (range_with_len p ((i + 1) * w)) ≡ option_map (λ j. p + i * w + j) r
more_indices controls g p i w r e none is =
    let a = i * w in
    let len : (i + 1) * w ≡ a + w = omega arith in
    let s = find_shift (is_empty_at controls) (λ j. leb 128 (get_or g j 0)) (p + a) 0 w (λ j lo hi. rw (same_control controls g (p + a) w j e (omega arith)) refl) in
    grind (arith, common_steps, head_filter, range_append, find-append)

pub whole_stride : (P : ℕ → Bool) (p n q : ℕ) → n ≤ 16 → find P (range_with_len p n) ≡ Some q → find P (range_with_len p 16) ≡ Some q
whole_stride P p n q le h = grind (arith, common_steps, range_append p n (16 - n), find-append P (range_with_len p n) (range_with_len (p + n) (16 - n)))

-- the first marked index of a group is inside it
pub index_inside : (P : ℕ → Bool) (n j : ℕ) (ps : List ℕ) → ps ≡ indices_where P n → Some j ≡ slice_get ps 0 → j < n
unfolding indices_where
index_inside P n j ps e h = grind (arith, common_steps, first_range, head_filter)

-- ---- all strides

-- the control byte at an index is the control byte of its bucket
same_test : (cap : ℕ) (controls : List ℕ) (q : ℕ) → 0 < cap → IsWrapped cap controls → q < 2 * cap → q < control_count cap → is_empty_at controls q ≡ is_empty_at controls (q % cap)
same_test cap controls q pos r two c = ap (leb 128) (control_of cap controls q pos r two c)

-- a stride without an empty index shows no free bucket
pub none_shown : (cap : ℕ) (controls : List ℕ) (p : ℕ) → 0 < cap → IsWrapped cap controls → p < probe_capacity cap → find (is_empty_at controls) (range_with_len p 16) ≡ None → list_any (is_empty_at controls) (buckets_at cap p) ≡ false
unfolding buckets_at
none_shown cap controls p pos r lp h =
    let n = none_find (is_empty_at controls) (range_with_len p 16) h in
    any_map_filter (is_empty_at controls) (λ q. ltb q (2 * cap)) (λ q. q % cap) (range_with_len p 16)
    ∙ none_range (λ q. ltb q (2 * cap) && is_empty_at controls (q % cap)) p 16 (λ q lo hi.
    elim (cases_lt q (2 * cap)) [
      | inr g ↦ and_left (ltb q (2 * cap)) (is_empty_at controls (q % cap)) (le-ltb q (2 * cap) g)
      | inl l ↦ and_right (ltb q (2 * cap)) (is_empty_at controls (q % cap))
          (false_from_ne_true (is_empty_at controls (q % cap)) (λ t.
          both_ways (list_any (is_empty_at controls) (range_with_len p 16)) n
          (any_range (is_empty_at controls) p 16 q lo hi (same_test cap controls q pos r l (omega arith) ∙ t))))
    ])

-- the first empty index of a stride belongs to the first free bucket that the stride shows
pub some_shown : (h cap : ℕ) (controls : List ℕ) (p q b : ℕ) → IsWrapped cap controls → b < cap → is_empty_at controls b ≡ true
    → list_any (eqb p) (strides h cap) ≡ true → p < probe_capacity cap
    → (list_any (is_empty_at controls) (buckets_at cap (start h cap)) ≡ false) ⊎ (p ≡ start h cap)
    → find (is_empty_at controls) (range_with_len p 16) ≡ Some q → (q < 2 * cap) × (find (is_empty_at controls) (buckets_at cap p) ≡ Some (q % cap))
some_shown h cap controls p q b r hb fb hp lp started e =
    let pos : 0 < cap = omega arith in
    let f = first_range (is_empty_at controls) p 16 q e in
    let lo = f.from in
    let hi = f.to in
    let two : q < 2 * cap = elim (cases_lt q (2 * cap)) [
      | inl l ↦ l
      | inr g ↦
          let w = tail_shows_all h cap p b hb hp (omega arith) in
          let q' = w.0 in
          let here = λ (l : p ≤ q') (u : q' < p + 16).
          (let t = same_test cap controls q' pos r w.1 (omega arith) ∙ ap (is_empty_at controls) w.2 ∙ fb in
          let less : q' < q = omega (arith, w.1) in
          both_ways (is_empty_at controls q') (f.no q' l less) t) in
          grind (arith, both_ways, taken_at)
    ] in (
      two,
      find_buckets (is_empty_at controls) cap p
          ∙ ap (option_map (λ x. x % cap)) (range_first (λ x. ltb x (2 * cap) && is_empty_at controls (x % cap)) p 16 q (record {
            from = lo;
            to = hi;
            yes = and_from (ltb q (2 * cap)) (is_empty_at controls (q % cap)) (lt-ltb q (2 * cap) two) (sym (same_test cap controls q pos r two (omega arith)) ∙ f.yes);
            no = λ i l g. let i2 : i < 2 * cap = omega arith in
                and_right (ltb i (2 * cap)) (is_empty_at controls (i % cap)) (sym (same_test cap controls i pos r i2 (omega arith)) ∙ f.no i l g);
          })),
    )

-- some bucket that a hash shows is free
pub free_probed : (h cap : ℕ) (free : ℕ → Bool) (b : ℕ) → b < cap → free b ≡ true → list_any free (probed h cap) ≡ true
unfolding buckets_at
free_probed h cap free b hb fb =
    let v = covered h cap b hb in
    let p = v.0 in
    let q = v.1 in
    let t = and_from (ltb q (2 * cap)) (free (q % cap)) (lt-ltb q (2 * cap) v.5) (ap free v.6 ∙ fb) in
    search (rules, any_range, any_map_filter, any_flat_map, any_member)

-- ---- steps of the walk over the strides

pub head_of : (xs ys : List ℕ) (x y : ℕ) → x ∷ xs ≡ y ∷ ys → x ≡ y
head_of xs ys x y e = cc

pub begun : (h cap p : ℕ) (free : ℕ → Bool) (ps qs : List ℕ) → 0 < cap → (qs ≡ strides h cap) ⊎ (list_any free (buckets_at cap (start h cap)) ≡ false) → qs ≡ p ∷ ps
    → (list_any free (buckets_at cap (start h cap)) ≡ false) ⊎ (p ≡ start h cap)
begun h cap p free ps qs pos c e = grind (arith, common_steps, strides_head h cap pos, head_of)

-- a stride that shows no free bucket
pub passes_on : (h cap p : ℕ) (free : ℕ → Bool) (ps qs : List ℕ) → qs ≡ p ∷ ps → list_any free (buckets_at cap p) ≡ false
    → find free (probed h cap) ≡ find free (flat_map (buckets_at cap) qs)
    → find free (probed h cap) ≡ find free (flat_map (buckets_at cap) ps)
passes_on h cap p free ps qs e none same = grind (arith, common_steps, find_none, find-append)

pub first_at : (h cap p b : ℕ) (free : ℕ → Bool) (ps qs : List ℕ) → qs ≡ p ∷ ps → find free (buckets_at cap p) ≡ Some b
    → find free (probed h cap) ≡ find free (flat_map (buckets_at cap) qs)
    → find free (probed h cap) ≡ Some b
first_at h cap p b free ps qs e some same = grind (arith, common_steps, find-append)

pub later_started : (h cap p : ℕ) (free : ℕ → Bool) → (list_any free (buckets_at cap (start h cap)) ≡ false) ⊎ (p ≡ start h cap) → list_any free (buckets_at cap p) ≡ false → list_any free (buckets_at cap (start h cap)) ≡ false
later_started h cap p free c n = elim c [ inl m ↦ m | inr e ↦ rw e at n ]

pub member_front : (p : ℕ) (ps qs : List ℕ) → qs ≡ p ∷ ps → list_any (eqb p) qs ≡ true
member_front p ps qs e = ap (list_any (eqb p)) e ∙ or_left (eqb p p) (list_any (eqb p) ps) (eq-eqb p p refl)

-- the first stride shows a free bucket
pub first_shown : (h cap : ℕ) (controls : List ℕ) (q b : ℕ) → IsWrapped cap controls → b < cap → is_empty_at controls b ≡ true
    → find (is_empty_at controls) (range_with_len (start h cap) 16) ≡ Some q → (q < 2 * cap) × (find (is_empty_at controls) (probed h cap) ≡ Some (q % cap))
first_shown h cap controls q b r hb fb e =
    let pos : 0 < cap = omega (arith, hb) in
    let p = start h cap in
    let head = strides_head h cap pos in
    let member = member_front p head.0 (strides h cap) head.1 in
    let s = some_shown h cap controls p q b r hb fb member (stride_below h cap p pos member) (inr refl) e in
    (s.0, first_at h cap p (q % cap) (is_empty_at controls) head.0 (strides h cap) head.1 s.1 refl)

pub member_rest : (p x : ℕ) (ps qs : List ℕ) → qs ≡ p ∷ ps → list_any (eqb x) ps ≡ true → list_any (eqb x) qs ≡ true
member_rest p x ps qs e m = ap (list_any (eqb x)) e ∙ or_right (eqb x p) (list_any (eqb x) ps) m

-- the strides don't end before a free bucket
pub runs_out : (h cap b : ℕ) (free : ℕ → Bool) (qs : List ℕ) → b < cap → free b ≡ true → qs ≡ [] → find free (probed h cap) ≡ find free (flat_map (buckets_at cap) qs) → ⊥
runs_out h cap b free qs hb fb e same = grind (arith, common_steps, free_probed h cap free b hb fb, both_ways, none_find)

pub empty_index_is : (controls : List ℕ) (p : ℕ) → empty_index controls p ≡ find (is_empty_at controls) (range_with_len p 16)
unfolding empty_index
empty_index_is controls p = refl

-- ---- the first empty index of all strides

find_skip : (P : ℕ → Bool) (x : ℕ) (xs : List ℕ) → P x ≡ false → find P (x ∷ xs) ≡ find P xs
find_skip P x xs e = rw e refl

find_front : (P : ℕ → Bool) (x : ℕ) (xs : List ℕ) → P x ≡ true → find P (x ∷ xs) ≡ Some x
find_front P x xs e = rw e refl

has_empty_is : (controls : List ℕ) (p : ℕ) → stride_has_empty controls p ≡ list_any (is_empty_at controls) (range_with_len p 16)
unfolding stride_has_empty
has_empty_is controls p = refl

-- `qs`: strides from some number on, before which no free bucket is shown
first_from : (h cap b : ℕ) (controls qs : List ℕ) → IsWrapped cap controls → b < cap → is_empty_at controls b ≡ true
    → ((p : ℕ) → list_any (eqb p) qs ≡ true → list_any (eqb p) (strides h cap) ≡ true)
    → (qs ≡ strides h cap) ⊎ (list_any (is_empty_at controls) (buckets_at cap (start h cap)) ≡ false)
    → find (is_empty_at controls) (probed h cap) ≡ find (is_empty_at controls) (flat_map (buckets_at cap) qs)
    → (p : ℕ) × (q : ℕ) × (find (stride_has_empty controls) qs ≡ Some p) × (empty_index controls p ≡ Some q) × (q < 2 * cap) × (find (is_empty_at controls) (probed h cap) ≡ Some (q % cap))
first_from h cap b controls [] r hb fb members c same = absurd (runs_out h cap b (is_empty_at controls) [] hb fb refl same)
first_from h cap b controls (p ∷ ps) r hb fb members c same =
    let free = is_empty_at controls in
    let pos : 0 < cap = omega arith in
    let hp = members p (member_front p ps (p ∷ ps) refl) in
    let lp = stride_below h cap p pos hp in
    let st = begun h cap p free ps (p ∷ ps) pos c refl in
    elim (cases_option (find free (range_with_len p 16))) [
      | inl none ↦
          let shown = none_shown cap controls p pos r lp none in
          let ih = first_from h cap b controls ps r hb fb (λ x m. members x (member_rest p x ps (p ∷ ps) refl m))
          (inr (later_started h cap p free st shown)) (passes_on h cap p free ps (p ∷ ps) refl shown same) in
          let e = has_empty_is controls p ∙ none_find free (range_with_len p 16) none in
          (ih.0, ih.1, find_skip (stride_has_empty controls) p ps e ∙ ih.2, ih.3, ih.4, ih.5)
      | inr some ↦
          let q = some.0 in
          let s = some_shown h cap controls p q b r hb fb hp lp st some.1 in
          let e = has_empty_is controls p ∙ (some_find free (range_with_len p 16) q some.1).0 in
          (p, q, find_front (stride_has_empty controls) p ps e, empty_index_is controls p ∙ some.1, s.0, first_at h cap p (q % cap) free ps (p ∷ ps) refl s.1 same)
    ]

-- the first empty index of all strides belongs to the first free bucket that a hash shows
pub first_of_all : (h cap : ℕ) (controls : List ℕ) → IsWrapped cap controls → HasRoom cap controls
    → (p : ℕ) × (q : ℕ) × (find (stride_has_empty controls) (strides h cap) ≡ Some p) × (empty_index controls p ≡ Some q) × (q < 2 * cap) × (find (is_empty_at controls) (probed h cap) ≡ Some (q % cap))
first_of_all h cap controls r w =
    first_from h cap w.0 controls (strides h cap) r w.1 (le-leb 128 (get_or controls w.0 0) w.2) (λ p m. m) (inl refl) refl
