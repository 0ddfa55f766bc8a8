-- A lookup in written control bytes finds the first accepted home bucket.
use Rattle.std.proofs.Common.{◌≡◌, ℕ, ◌+◌, ◌*◌, ◌%◌, ◌^◌, ◌<◌, ◌≤◌, inl, inr, refl, sym, ap, ◌∙◌, arith, List, [], ◌∷◌, Bool, true, false, ◌&&◌, eqb, ltb, leb, length, get_or, take, map, Some, None, get_or-take, length-take, rules}
use Rattle.std.proofs.lemmas.Grind.{common_steps}
use Rattle.std.specs.List.{find, flat_map, list_any, position_or_len, range_with_len}
use Rattle.std.specs.Option.{option_map}
use Rattle.std.proofs.lemmas.Nat.{mod_below}
use Rattle.std.proofs.lemmas.List.{get_or_default, nil_from_length}
use Rattle.std.proofs.lemmas.List.Folds.{Any-from_list_any, find-append, find_at}
use Rattle.std.proofs.lemmas.List.Sums.{fails_before_first, passes_at_first}
use Rattle.std.proofs.lemmas.Option.{none-some, same_Some, slice_get-get_or}
use Rattle.std.proofs.lemmas.Bool.{cases_Bool, cases_lt, and_parts, and_from, and_cases, and_left, and_right, or_left, or_right, eqb-true, eq-eqb, ltb-true, lt-ltb, lt-leb, not-false, true≢false, false_from_ne_true, both_ways}
use Rattle.rkyv_table.specs.{AreWrittenControls, buckets_at, candidates, control_count, ends_at, found, is_free, marked, probe_capacity, probed, start, stride_has_empty, strides, tag}
use Rattle.rkyv_scan.specs.{IsKind, Kind}
use Rattle.rkyv_table.proofs.Coverage.{has_stride}
use Rattle.rkyv_table.proofs.Search.{GoodStride, cases_option, control_of, found_along, found_along_cons, mark_equal, mark_full, strides_head, tail_shows_all, walk_all, walk_on}
use Rattle.rkyv_table.proofs.Lists.{FirstIn, any_map_filter, any_member, any_range, find_map_filter, find_none, first_range, none_find, none_range, option_map_some, range_first, some_find}

-- ---- the buckets that a stride probes

pub find_buckets : (free : ℕ → Bool) (cap p : ℕ) → find free (buckets_at cap p) ≡ option_map (λ q. q % cap) (find (λ q. ltb q (2 * cap) && free (q % cap)) (range_with_len p 16))
unfolding buckets_at
find_buckets free cap p = find_map_filter free (λ q. ltb q (2 * cap)) (λ q. q % cap) (range_with_len p 16)

find_candidates : (accept : ℕ → Bool) (kind : Kind) (controls : List ℕ) (cap t p : ℕ) →
    find accept (candidates kind controls cap t p) ≡ option_map (λ q. q % cap) (find (λ q. marked kind controls t p q && accept (q % cap)) (range_with_len p 16))
unfolding candidates
find_candidates accept kind controls cap t p = find_map_filter accept (marked kind controls t p) (λ q. q % cap) (range_with_len p 16)

-- a bucket that a stride probes, if no probed bucket is free
pub taken_at : (free : ℕ → Bool) (cap p q : ℕ) → list_any free (buckets_at cap p) ≡ false → p ≤ q → q < p + 16 → q < 2 * cap → free (q % cap) ≡ false
unfolding buckets_at
taken_at free cap p q none lo hi two =
    false_from_ne_true (free (q % cap)) (λ t. search (rules, any_range, and_from, lt-ltb, any_map_filter, both_ways))

-- the first free bucket of a stride, as its index
pub first_free : (free : ℕ → Bool) (cap p b : ℕ) → find free (buckets_at cap p) ≡ Some b → (q : ℕ) × FirstIn (λ q. ltb q (2 * cap) && free (q % cap)) p 16 q × (q % cap ≡ b)
first_free free cap p b h =
    let w = option_map_some (λ q. q % cap) (find (λ q. ltb q (2 * cap) && free (q % cap)) (range_with_len p 16)) b (sym (find_buckets free cap p) ∙ h) in
    (w.0, first_range (λ q. ltb q (2 * cap) && free (q % cap)) p 16 w.0 w.1, w.2)

pub probed_below : (free : ℕ → Bool) (cap b : ℕ) (ps : List ℕ) → 0 < cap → find free (flat_map (buckets_at cap) ps) ≡ Some b → b < cap
probed_below free cap b [] pos h = absurd (none-some b h)
probed_below free cap b (p ∷ ps) pos h =
    let h' = sym (find-append free (buckets_at cap p) (flat_map (buckets_at cap) ps)) ∙ h in
    elim (cases_option (find free (buckets_at cap p))) [
      | inl none ↦ let h'' = rw none at h' in probed_below free cap b ps pos h''
      | inr some ↦ grind (arith, common_steps, same_Some, first_free, mod_below)
    ]

-- ---- taken buckets

-- a bucket that isn't free is an earlier home bucket
pub taken_home : (homes : List ℕ) (i b : ℕ) → i ≤ length homes → is_free (take i homes) b ≡ false → (j : ℕ) × (j < i) × (get_or homes j 0 ≡ b)
taken_home homes i b hi h =
    let a = Any-from_list_any (eqb b) (take i homes) (not-false (list_any (eqb b) (take i homes)) h) in
    let l = length-take i homes in
    grind (arith, common_steps, eqb-true, get_or_default, get_or-take)

-- ---- a written table and a lookup under the hash `h` of its item `i`, the first accepted one

pub record IsFirstAccepted (cap h i : ℕ) (hashes homes controls : List ℕ) (kind : Kind) (accept : ℕ → Bool) : Type 0 where
  pub written : AreWrittenControls cap hashes homes controls
  pub law : IsKind kind
  pub hash_fits : (j : ℕ) → j < length hashes → get_or hashes j 0 < 2 ^ 64
  pub some : 0 < cap
  pub within : i < length hashes
  pub under_hash : get_or hashes i 0 ≡ h
  pub yes : accept (get_or homes i 0) ≡ true
  pub no : (j : ℕ) → j < i → accept (get_or homes j 0) ≡ false

pub tag_small : (h : ℕ) → h < 2 ^ 64 → tag h < 128
tag_small h l = omega arith

module _ (cap h i : ℕ) (hashes homes controls : List ℕ) (kind : Kind) (accept : ℕ → Bool) (a : IsFirstAccepted cap h i hashes homes controls kind accept) where
  unfoldable pub b : ℕ
  b = get_or homes i 0

  free : ℕ → Bool
  free = is_free (take i homes)

  -- the bucket of a taken index is not accepted, and its control byte is full
  at_taken : (q : ℕ) → q < 2 * cap → q < control_count cap → free (q % cap) ≡ false → (accept (q % cap) ≡ false) × (get_or controls q 0 < 128)
  unfolding free
  at_taken q two c f = grind (arith, common_steps, taken_home, control_of, tag_small)

  stride_below : (p : ℕ) → list_any (eqb p) (strides h cap) ≡ true → p < probe_capacity cap
  stride_below p hp = ltb-true p (probe_capacity cap) (and_parts (ltb p (probe_capacity cap)) (eqb (p % 16) (start h cap % 16)) (sym (has_stride h cap p a.some) ∙ hp)).0

  -- if the buckets that a stride probes are taken, its indices are below `2 * cap`
  fits_below : (p : ℕ) → b < cap → free b ≡ true → list_any (eqb p) (strides h cap) ≡ true → list_any free (buckets_at cap p) ≡ false → list_any free (buckets_at cap (start h cap)) ≡ false → p + 16 ≤ 2 * cap
  fits_below p hb fb hp none first =
      elim (cases_lt (2 * cap) (p + 16)) [
        | inl over ↦ grind (arith, common_steps, tail_shows_all h cap p b hb hp over, both_ways, taken_at)
        | inr l ↦ l
      ]

  -- the search passes such a stride
  passed : (p : ℕ) → p < probe_capacity cap → p + 16 ≤ 2 * cap → list_any free (buckets_at cap p) ≡ false →
      (find accept (candidates kind controls cap (tag h) p) ≡ None) × (stride_has_empty controls p ≡ false)
  unfolding candidates stride_has_empty
  passed p lp two none =
      let at = λ (q : ℕ) (lo : p ≤ q) (hi : q < p + 16). at_taken q (omega arith) (omega arith) (taken_at free cap p q none lo hi (omega arith)) in (
        find_none accept (candidates kind controls cap (tag h) p)
            (any_map_filter accept (marked kind controls (tag h) p) (λ q. q % cap) (range_with_len p 16)
            ∙ none_range (λ q. marked kind controls (tag h) p q && accept (q % cap)) p 16
            (λ q lo hi. and_right (marked kind controls (tag h) p q) (accept (q % cap)) (at q lo hi).0)),
        none_range (λ q. leb 128 (get_or controls q 0)) p 16 (λ q lo hi. lt-leb 128 (get_or controls q 0) (at q lo hi).1),
      )

  -- the search ends at the stride that shows the home bucket
  found_in : (p : ℕ) → p < probe_capacity cap → find free (buckets_at cap p) ≡ Some b → find accept (candidates kind controls cap (tag h) p) ≡ Some b
  unfolding free b
  found_in p lp hb =
      let w = first_free free cap p b hb in
      let q = w.0 in
      let f = w.1 in
      let lo = f.from in
      let hi = f.to in
      let u = and_parts (ltb q (2 * cap)) (free (q % cap)) f.yes in
      let two = ltb-true q (2 * cap) u.0 in
      let k = control_of cap controls q a.some a.written.wrapped two (omega arith) in
      let t : get_or controls q 0 ≡ tag h = k ∙ ap (λ z. get_or controls z 0) w.2 ∙ a.written.tags i a.within ∙ ap tag a.under_hash in
      let m = mark_equal kind a.law controls (tag h) p q lo t in
      let r = range_first (λ q. marked kind controls (tag h) p q && accept (q % cap)) p 16 q (record {
        from = lo;
        to = hi;
        yes = and_from (marked kind controls (tag h) p q) (accept (q % cap)) m (ap accept w.2 ∙ a.yes);
        no = λ j l g.
            let v = and_cases (ltb j (2 * cap)) (free (j % cap)) (f.no j l g) in
            let tj : j < 2 * cap = omega arith in
            let nf : free (j % cap) ≡ false = elim v [ inl x ↦ absurd (both_ways (ltb j (2 * cap)) x (lt-ltb j (2 * cap) tj)) | inr x ↦ x ] in
            and_right (marked kind controls (tag h) p j) (accept (j % cap)) (at_taken j tj (omega arith) nf).0;
      }) in
      find_candidates accept kind controls cap (tag h) p ∙ ap (option_map (λ q. q % cap)) r ∙ ap Some w.2

  -- the result is the home bucket of that item
  pub finds_home : found_along kind controls cap (tag h) accept (strides h cap) ≡ Some (get_or homes i 0)
  unfolding free b
  finds_home =
      let home = a.written.placed.first i a.within in
      let home' : find free (probed h cap) ≡ Some b = rw a.under_hash at home in
      let fb = (some_find free (probed h cap) b home').1 in
      let lb = probed_below free cap b (strides h cap) a.some home' in
      let st = strides_head h cap a.some in
      let s = start h cap in
      let here : list_any (eqb s) (strides h cap) ≡ true = ap (list_any (eqb s)) st.1 ∙ or_left (eqb s s) (list_any (eqb s) st.0) (eq-eqb s s refl) in
      let good = λ (p : ℕ) (hp : list_any (eqb p) (strides h cap) ≡ true) (first : list_any free (buckets_at cap p) ≡ false → list_any free (buckets_at cap s) ≡ false).
      (let lp = stride_below p hp in
      let g : GoodStride cap b free accept kind controls (tag h) p = record {
        passes = λ n. let none = none_find free (buckets_at cap p) n in passed p lp (fits_below p lb fb hp none (first none)) none;
        hits = λ n. found_in p lp n;
      } in g) in
      search (rules, found_along, walk_on, none_find, walk_all, or_right)

-- if no home bucket is accepted, no candidate is
none_accepted : (cap h p : ℕ) (hashes homes controls : List ℕ) (kind : Kind) (accept : ℕ → Bool) → 0 < cap → h < 2 ^ 64 → IsKind kind → AreWrittenControls cap hashes homes controls
    → list_any accept homes ≡ false → p < probe_capacity cap → find accept (candidates kind controls cap (tag h) p) ≡ None
unfolding candidates
none_accepted cap h p hashes homes controls kind accept pos hh law w none lp =
    find_none accept (candidates kind controls cap (tag h) p)
    (any_map_filter accept (marked kind controls (tag h) p) (λ q. q % cap) (range_with_len p 16)
    ∙ none_range (λ q. marked kind controls (tag h) p q && accept (q % cap)) p 16
    (λ q lo hi. elim (cases_Bool (marked kind controls (tag h) p q)) [
      | inr n ↦ and_left (marked kind controls (tag h) p q) (accept (q % cap)) n
      | inl m ↦
          let f = mark_full kind law controls (tag h) p q (tag_small h hh) lo m in
          let two : q < 2 * cap = elim (cases_lt q (2 * cap)) [ inl l ↦ l | inr g ↦ let e = w.past q g (omega arith) in absurd (omega arith) ] in
          let k = control_of cap controls q pos w.wrapped two (omega arith) in
          let lb = mod_below q cap pos in
          let taken : is_free homes (q % cap) ≡ false = false_from_ne_true (is_free homes (q % cap)) (λ t. let e = w.others (q % cap) lb t in absurd (omega arith)) in
          let has : list_any (eqb (q % cap)) homes ≡ true = not-false (list_any (eqb (q % cap)) homes) taken in
          and_right (marked kind controls (tag h) p q) (accept (q % cap))
          (false_from_ne_true (accept (q % cap)) (λ t. both_ways (list_any accept homes) none (any_member accept (q % cap) homes has t)))
    ]))

found_along_none : (kind : Kind) (controls : List ℕ) (cap t : ℕ) (accept : ℕ → Bool) (ps : List ℕ) → ((p : ℕ) → list_any (eqb p) ps ≡ true → find accept (candidates kind controls cap t p) ≡ None) → found_along kind controls cap t accept ps ≡ None
found_along_none kind controls cap t accept [] h = refl
found_along_none kind controls cap t accept (p ∷ ps) h =
    found_along_cons kind controls cap t accept p ps ∙ (elim (cases_Bool (ends_at kind controls cap t accept p)) [
      | inl e ↦ rw e (h p (or_left (eqb p p) (list_any (eqb p) ps) (eq-eqb p p refl)))
      | inr e ↦ rw e (found_along_none kind controls cap t accept ps (λ q m. h q (or_right (eqb q p) (list_any (eqb q) ps) m)))
    ])

pub first_within : (P : ℕ → Bool) (xs : List ℕ) → list_any P xs ≡ true → position_or_len P xs < length xs
first_within P [] h = absurd (true≢false (sym h))
first_within P (x ∷ xs) h = elim (cases_Bool (P x)) [
  | inl t ↦ rw t (omega arith)
  | inr e ↦ let h' = rw e at h in let ih = first_within P xs h' in rw e (omega arith)
]

-- in written control bytes, the lookup finds the first accepted home bucket, if only items under
-- the hash are accepted
pub found_written : (cap h : ℕ) (hashes homes controls : List ℕ) (kind : Kind) (accept : ℕ → Bool) → length hashes < cap → h < 2 ^ 64 → IsKind kind → AreWrittenControls cap hashes homes controls
    → ((j : ℕ) → j < length hashes → get_or hashes j 0 < 2 ^ 64)
    → ((j : ℕ) → j < length hashes → accept (get_or homes j 0) ≡ true → get_or hashes j 0 ≡ h)
    → found kind controls cap (length hashes) h accept ≡ find accept homes
found_written cap h hashes homes controls kind accept room hh law w fits under_hash =
    let len = w.placed.count in
    elim (cases_Bool (eqb (length hashes) 0)) [
      | inl e ↦
          let z = eqb-true (length hashes) 0 e in
          let n : homes ≡ [] = nil_from_length homes (omega arith) in
          rw e (sym (ap (find accept) n))
      | inr e ↦
          rw e (elim (cases_Bool (list_any accept homes)) [
            | inr none ↦ found_along_none kind controls cap (tag h) accept (strides h cap)
                (λ p hp. none_accepted cap h p hashes homes controls kind accept (omega arith) hh law w none
                (ltb-true p (probe_capacity cap) (and_parts (ltb p (probe_capacity cap)) (eqb (p % 16) (start h cap % 16)) (sym (has_stride h cap p (omega arith)) ∙ hp)).0))
                ∙ sym (find_none accept homes none)
            | inl some ↦
                let i = position_or_len accept homes in
                let l : i < length homes = first_within accept homes some in
                let y = passes_at_first accept homes 0 l in
                let hi = under_hash i (omega arith) y in
                let a : IsFirstAccepted cap h i hashes homes controls kind accept = record { written = w; law = law; hash_fits = fits; some = omega arith; within = omega arith; under_hash = hi; yes = y; no = λ j lj. fails_before_first accept homes j 0 lj } in
                finds_home cap h i hashes homes controls kind accept a
                ∙ sym (find_at accept homes ∙ slice_get-get_or homes i 0 l)
          ])
    ]

-- the first item that passes, by the items of the buckets
find_through : {X : Type 0} (f : ℕ → X) (c : X → Bool) (bs : List ℕ) → find c (map f bs) ≡ option_map f (find (λ b. c (f b)) bs)
find_through f c [] = refl
find_through f c (b ∷ bs) = elim (cases_Bool (c (f b))) [ inl t ↦ rw t refl | inr e ↦ rw e (find_through f c bs) ]

pub found_first : {X : Type 0} (cap h : ℕ) (hashes homes controls : List ℕ) (kind : Kind) (items : List X) (item_at : ℕ → X) (c : X → Bool) → length hashes < cap → h < 2 ^ 64 → IsKind kind → AreWrittenControls cap hashes homes controls
    → ((j : ℕ) → j < length hashes → get_or hashes j 0 < 2 ^ 64)
    → items ≡ map item_at homes
    → ((j : ℕ) → j < length hashes → c (item_at (get_or homes j 0)) ≡ true → get_or hashes j 0 ≡ h)
    → option_map item_at (found kind controls cap (length hashes) h (λ b. c (item_at b))) ≡ find c items
found_first cap h hashes homes controls kind items item_at c room hh law w fits e under_hash = grind (arith, common_steps, found_written, find_through)
