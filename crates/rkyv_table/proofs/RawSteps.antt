-- The steps of a walk over items, by their number.
use Rattle.std.proofs.Common.{◌≡◌, ℕ, ◌+◌, ◌-◌, ◌*◌, ◌<◌, ◌≤◌, inl, inr, refl, sym, ap, ◌∙◌, arith, List, [], ◌∷◌, ◌++◌, Bool, ltb, map, filter, drop, take, length, get_or, Some, None, get_or-take, get_or-drop}
use Rattle.std.proofs.lemmas.Grind.{common_steps}
use Rattle.std.specs.List.{range_with_len, slice_get}
use Rattle.std.proofs.lemmas.Bool.{cases_eq}
use Rattle.std.proofs.lemmas.Option.{none-some, same_Some}
use Rattle.std.proofs.lemmas.List.{take-append-le, take_all}
use Rattle.std.proofs.Math.Nat.{mul-le-mul_right}
use Rattle.std.proofs.lemmas.List.Elements.{All-rest, All-same, filter-append}
use Rattle.rkyv_scan.specs.{indices_where}
use Rattle.rkyv_scan.proofs.Indices.{range_agree}
use Rattle.rkyv_table.specs.{IsAhead, IsRawIter, buckets_left, control_count, full_from, marked_left, pos_before, positions_left, walk}
use Rattle.rkyv_table.proofs.FirstFree.{head_filter}
use Rattle.rkyv_table.proofs.Groups.{filter_shift, range_append}
use Rattle.rkyv_table.proofs.Lists.{first_range}
use Rattle.rkyv_table.proofs.Walks.{walk_small}

head_marked : (controls : List ℕ) (base j : ℕ) (marks : List ℕ) → Some j ≡ slice_get marks 0 → marked_left controls base marks ≡ (base + j) ∷ marked_left controls base (drop 1 marks)
unfolding marked_left
head_marked controls base j [] e = absurd (none-some j (sym e))
head_marked controls base j (x ∷ xs) e = ap (λ k. (base + k) ∷ (map (λ j. base + j) xs ++ full_from controls (length controls) (base + 8))) (sym (same_Some j x e))

none_marked : (controls : List ℕ) (base : ℕ) (marks : List ℕ) → None ≡ slice_get marks 0 → marked_left controls base marks ≡ full_from controls (length controls) (base + 8)
unfolding marked_left
none_marked controls base [] e = refl
none_marked controls base (x ∷ xs) e = absurd (none-some x e)

-- the full indices of a group, and those after it
pub group_cut : (F : ℕ → Bool) (end base w : ℕ) → base + w ≤ end → map (λ j. base + j) (filter (λ j. F (base + j)) (range_with_len 0 w)) ++ filter F (range_with_len (base + w) (end - (base + w))) ≡ filter F (range_with_len base (end - base))
group_cut F end base w le =
    let n = end - (base + w) in
    let s = filter_shift F (λ j. F (base + j)) base 0 w (λ j lo hi. refl) in
    grind (arith, common_steps, range_append base w n, filter-append F (range_with_len base w) (range_with_len (base + w) n))

pub group_read : (controls : List ℕ) (base w : ℕ) (marks : List ℕ) → marks ≡ indices_where (λ j. ltb (get_or (take w (drop base controls)) j 0) 128) w
    → marks ≡ filter (λ j. ltb (get_or controls (base + j) 0) 128) (range_with_len 0 w)
unfolding indices_where
group_read controls base w marks e = grind (arith, common_steps, range_agree, get_or-take, get_or-drop)

-- a group that is read anew
group_marked : (controls : List ℕ) (base : ℕ) (marks : List ℕ) → base + 8 ≤ length controls → marks ≡ indices_where (λ j. ltb (get_or (take 8 (drop base controls)) j 0) 128) 8
    → marked_left controls base marks ≡ full_from controls (length controls) base
unfolding marked_left full_from
group_marked controls base marks le e =
    ap (λ xs. map (λ j. base + j) xs ++ filter (λ q. ltb (get_or controls q 0) 128) (range_with_len (base + 8) (length controls - (base + 8)))) (group_read controls base 8 marks e)
    ∙ group_cut (λ q. ltb (get_or controls q 0) 128) (length controls) base 8 le

-- the first full index from `b` on
full_head : (controls : List ℕ) (n b q : ℕ) (rest : List ℕ) → full_from controls n b ≡ q ∷ rest → b ≤ q
unfolding full_from
full_head controls n b q rest e =
    let F = λ (q : ℕ). ltb (get_or controls q 0) 128 in
    let f = first_range F b (n - b) q (sym (head_filter F (range_with_len b (n - b))) ∙ ap (λ xs. slice_get xs 0) e) in
    f.from

take_cons : (n x : ℕ) (xs : List ℕ) → 0 < n → take n (x ∷ xs) ≡ x ∷ take (n - 1) xs
take_cons f x xs h = grind (arith, common_steps)

split_head : (xs : List ℕ) → 0 < length xs → (x : ℕ) × (rest : List ℕ) × (xs ≡ x ∷ rest)
split_head [] h = absurd (omega arith)
split_head (x ∷ xs) h = (x, xs, refl)

module _ (buckets_end size count : ℕ) (controls : List ℕ) (base : ℕ) (marks : List ℕ) (is : IsRawIter buckets_end size count controls base marks) where
  head_left : (j : ℕ) → 0 < count → Some j ≡ slice_get marks 0 → buckets_left count controls base marks ≡ (base + j) ∷ buckets_left (count - 1) controls base (drop 1 marks)
  unfolding buckets_left
  head_left j some e = ap (take count) (head_marked controls base j marks e) ∙ take_cons count (base + j) (marked_left controls base (drop 1 marks)) some

  head_ahead : (j : ℕ) → 0 < count → Some j ≡ slice_get marks 0 → IsAhead (buckets_end + base * size) size controls (base + j)
  head_ahead j some e = grind (arith, common_steps, head_left)

  -- the bucket of the lowest mark is before the position
  pub head_before : (j : ℕ) → 0 < count → Some j ≡ slice_get marks 0 → (j + 8 ≤ length controls) × ((j + 1) * size ≤ buckets_end)
  head_before j some e = grind (arith, common_steps, head_ahead j some e)

  pub head_positions : (j : ℕ) → 0 < count → Some j ≡ slice_get marks 0 → positions_left buckets_end size count controls base marks ≡ (buckets_end - (j + 1) * size) ∷ positions_left buckets_end size (count - 1) controls base (drop 1 marks)
  head_positions j some e = grind (arith, common_steps, head_left)

  pub head_keeps : (j : ℕ) → 0 < count → Some j ≡ slice_get marks 0 → IsRawIter buckets_end size (count - 1) controls base (drop 1 marks)
  head_keeps j some e =
      let h = head_left j some e in
      let l = ap length h in
      record {
        counted = omega (arith, is.counted, l);
        ahead = All-rest (IsAhead (buckets_end + base * size) size controls) (base + j) (buckets_left (count - 1) controls base (drop 1 marks)) (buckets_left count controls base marks) h is.ahead;
      }

  -- no mark is left, and some bucket is
  rest_left : None ≡ slice_get marks 0 → buckets_left count controls base marks ≡ take count (full_from controls (length controls) (base + 8))
  unfolding buckets_left
  rest_left e = ap (take count) (none_marked controls base marks e)

  next_ahead : 0 < count → None ≡ slice_get marks 0 → (q : ℕ) × (base + 8 ≤ q) × IsAhead (buckets_end + base * size) size controls q
  next_ahead some e = grind (arith, common_steps, rest_left, cases_eq, take_all, split_head, take_cons, full_head)

  -- the next group is inside the control bytes, and its buckets are before the position
  pub next_inside : 0 < count → None ≡ slice_get marks 0 → (base + 16 ≤ length controls) × (8 * size ≤ buckets_end)
  next_inside some e =
      let h = next_ahead some e in
      let m = mul-le-mul_right {m = base + 9} {n = h.0 + 1} size (omega (arith, h.1)) in
      (omega (arith, h.1, h.2.0), omega (arith, h.2.1, m))

  module _ (some : 0 < count) (none : None ≡ slice_get marks 0) (marks' : List ℕ) (read : marks' ≡ indices_where (λ j. ltb (get_or (take 8 (drop (base + 8) controls)) j 0) 128) 8) where
    next_left : buckets_left count controls base marks ≡ buckets_left count controls (base + 8) marks'
    unfolding buckets_left
    next_left = grind (arith, common_steps, next_inside, rest_left, group_marked)

    next_pos : buckets_end - 8 * size + (base + 8) * size ≡ buckets_end + base * size
    next_pos = grind (arith, common_steps, next_inside)

    pub next_positions : positions_left buckets_end size count controls base marks ≡ positions_left (buckets_end - 8 * size) size count controls (base + 8) marks'
    next_positions = grind (arith, common_steps, next_left, next_pos)

    pub next_keeps : IsRawIter (buckets_end - 8 * size) size count controls (base + 8) marks'
    next_keeps = record {
      counted = is.counted ∙ ap length next_left;
      ahead = All-same (IsAhead (buckets_end - 8 * size + (base + 8) * size) size controls) (buckets_left count controls (base + 8) marks') (buckets_left count controls base marks) (sym next_left)
          (rw next_pos is.ahead);
    }

-- no bucket remains
pub end_left : (count : ℕ) (controls : List ℕ) (base : ℕ) (marks : List ℕ) → count ≡ 0 → buckets_left count controls base marks ≡ []
unfolding buckets_left
end_left count controls base marks e = ap (λ n. take n (marked_left controls base marks)) e

pub end_positions : (buckets_end size count : ℕ) (controls : List ℕ) (base : ℕ) (marks : List ℕ) → count ≡ 0 → positions_left buckets_end size count controls base marks ≡ []
end_positions buckets_end size count controls base marks e = ap (map (pos_before (buckets_end + base * size) size)) (end_left count controls base marks e)

-- the buckets of a walk are the first full indices
walked_first : (controls : List ℕ) (cap : ℕ) → cap ≤ length controls → take (length (walk controls cap)) (full_from controls (length controls) 0) ≡ walk controls cap
unfolding full_from walk
walked_first controls cap le =
    let F = λ (q : ℕ). ltb (get_or controls q 0) 128 in
    let n = length controls - cap in
    grind (arith, common_steps, range_append 0 cap n, filter-append F (range_with_len 0 cap) (range_with_len (0 + cap) n), take-append-le, take_all)

no_length : (xs : List ℕ) → length xs ≡ 0 → xs ≡ []
no_length [] e = refl
no_length (x ∷ xs) e = absurd (omega arith)

pub start_left : (controls shown : List ℕ) (cap len : ℕ) (marks : List ℕ) → len ≡ length (walk shown cap) → (0 < len → controls ≡ shown) → (0 < len → control_count cap ≤ length controls)
    → (0 < len → marks ≡ indices_where (λ j. ltb (get_or (take 8 controls) j 0) 128) 8) → buckets_left len controls 0 marks ≡ walk shown cap
unfolding buckets_left
start_left controls shown cap len marks count same long read =
    elim (cases_eq len 0) [
      | inl z ↦ end_left len controls 0 marks z ∙ sym (no_length (walk shown cap) (omega arith))
      | inr nz ↦
          let some : 0 < len = omega arith in
          let l = long some in
          grind (arith, common_steps, group_marked, walked_first)
    ]

pub some_capacity : (controls : List ℕ) (cap len : ℕ) → len ≡ length (walk controls cap) → 0 < len → 0 < cap
some_capacity controls cap len e some = omega (arith, walk_small controls cap)
