-- Items that a lookup of their own doesn't find.
use Rattle.std.proofs.Common.{◌≡◌, ℕ, ◌+◌, ◌%◌, ◌^◌, ◌<◌, ◌≤◌, inl, inr, refl, sym, ap, subst, ◌∙◌, arith, List, [], ◌∷◌, Bool, true, false, not, ◌&&◌, eqb, length, filter, get_or, map, take, Option, Some, get_or-take, length-take, rules}
use Rattle.std.proofs.lemmas.Grind.{common_steps}
use Rattle.std.specs.Prelude.{MatchOption}
use Rattle.std.specs.List.{Contains, IsDistinct, find, list_any, position_or_len, range_with_len}
use Rattle.std.specs.Cmp.{nat_eq_equiv}
use Rattle.std.proofs.lemmas.List.{ext_get_or, get_or_default, nil_from_length}
use Rattle.std.proofs.lemmas.List.Folds.{Any-from_list_any, find_at, list_any_at}
use Rattle.std.proofs.lemmas.List.FromFn.{get_or-map-range_with_len, get_or-range_with_len, length-map-range_with_len, length-range_with_len}
use Rattle.std.proofs.lemmas.List.Sums.{fails_before_first, passes_at_first}
use Rattle.std.proofs.lemmas.Map.Made.{length-from_same_keys}
use Rattle.std.proofs.lemmas.Option.{none-some, same_Some, slice_get-get_or}
use Rattle.std.proofs.lemmas.Bool.{cases_Bool, cases_eq, cases_lt, and_parts, and_from, eq-eqb, eqb-true, ne_eqb, not-false, or_left, or_right, true≢false}
use Rattle.rkyv_scan.specs.{IsKind, Kind, is_full}
use Rattle.rkyv_scan.proofs.Indices.{range_agree}
use Rattle.rkyv_table.specs.{AcceptsSame, AloneAccepted, AreValidControls, AreWrittenControls, IsSameness, NoneAccepted, candidates, ends_at, found, is_found_at, is_misplaced, marked, misplaced, repeated, repeats_earlier, strides, tag, walk}
use Rattle.rkyv_table.proofs.Lists.{any_filter, any_map_filter, any_member, contains_member, distinct_filter, member_contains, some_find}
use Rattle.rkyv_table.proofs.Lookup.{found_is, marked_walked}
use Rattle.rkyv_table.proofs.Search.{cases_option, found_along, found_along_cons}
use Rattle.rkyv_table.proofs.Written.{first_within, found_written, tag_small}
use Rattle.rkyv_table.proofs.WrittenAccepted.{distinct_homes, distinct_range, full_home, homes_apart}

-- ---- a found bucket is full and accepted

found_member : (P : ℕ → Bool) (x : ℕ) (xs : List ℕ) → find P xs ≡ Some x → list_any (eqb x) xs ≡ true
found_member P x [] e = absurd (none-some x e)
found_member P x (y ∷ ys) e = elim (cases_Bool (P y)) [
  | inl t ↦ let e' = rw t at e in or_left (eqb x y) (list_any (eqb x) ys) (eq-eqb x y (sym (same_Some y x e')))
  | inr f ↦ let e' = rw f at e in or_right (eqb x y) (list_any (eqb x) ys) (found_member P x ys e')
]

any_agree : (P Q : ℕ → Bool) (xs : List ℕ) → ((x : ℕ) → list_any (eqb x) xs ≡ true → P x ≡ Q x) → list_any P xs ≡ list_any Q xs
any_agree P Q [] on = refl
any_agree P Q (x ∷ xs) on =
    rw (on x (or_left (eqb x x) (list_any (eqb x) xs) (eq-eqb x x refl)), any_agree P Q xs (λ y m. on y (or_right (eqb y x) (list_any (eqb y) xs) m))) refl

find_agree : (P Q : ℕ → Bool) (xs : List ℕ) → ((x : ℕ) → list_any (eqb x) xs ≡ true → P x ≡ Q x) → find P xs ≡ find Q xs
find_agree P Q [] on = refl
find_agree P Q (x ∷ xs) on =
    rw (on x (or_left (eqb x x) (list_any (eqb x) xs) (eq-eqb x x refl)), find_agree P Q xs (λ y m. on y (or_right (eqb y x) (list_any (eqb y) xs) m))) refl

module _ (kind : Kind) (cap len h : ℕ) (controls : List ℕ) (law : IsKind kind) (accepted : AreValidControls cap len controls) (fits : h < 2 ^ 64) where
  candidate_walked : (p b : ℕ) → list_any (eqb p) (strides h cap) ≡ true → list_any (eqb b) (candidates kind controls cap (tag h) p) ≡ true → Contains (walk controls cap) b
  unfolding candidates
  candidate_walked p b here c =
      let m = marked kind controls (tag h) p in
      let a = Any-from_list_any (λ q. m q && eqb b (q % cap)) (range_with_len p 16) (sym (any_map_filter (eqb b) m (λ q. q % cap) (range_with_len p 16)) ∙ c) in
      let q = a.1 in
      let t = and_parts (m q) (eqb b (q % cap)) a.4 in
      let l = length-range_with_len p 16 in
      let g = get_or-range_with_len p 16 a.0 q (omega arith) in
      let at : q ≡ p + a.0 = sym a.3 ∙ g in
      let k = marked_walked kind cap len h (tag h) p q controls law accepted (tag_small h fits) (member_contains p (strides h cap) here) (omega arith) (omega arith) t.0 in
      subst (Contains (walk controls cap)) (sym (eqb-true b (q % cap) t.1)) k.1

  finds_walked : (accept : ℕ → Bool) (b : ℕ) (ps : List ℕ) → ((p : ℕ) → list_any (eqb p) ps ≡ true → list_any (eqb p) (strides h cap) ≡ true)
      → found_along kind controls cap (tag h) accept ps ≡ Some b → (accept b ≡ true) × Contains (walk controls cap) b
  finds_walked accept b [] sub e = absurd (none-some b e)
  finds_walked accept b (p ∷ ps) sub e =
      let e' = sym (found_along_cons kind controls cap (tag h) accept p ps) ∙ e in
      elim (cases_Bool (ends_at kind controls cap (tag h) accept p)) [
        | inl t ↦
            let f : find accept (candidates kind controls cap (tag h) p) ≡ Some b = rw t at e' in (
              (some_find accept (candidates kind controls cap (tag h) p) b f).1,
              candidate_walked p b (sub p (or_left (eqb p p) (list_any (eqb p) ps) (eq-eqb p p refl))) (found_member accept b (candidates kind controls cap (tag h) p) f),
            )
        | inr n ↦
            let f : found_along kind controls cap (tag h) accept ps ≡ Some b = rw n at e' in
            finds_walked accept b ps (λ q m. sub q (or_right (eqb q p) (list_any (eqb q) ps) m)) f
      ]

  pub found_walked : (accept : ℕ → Bool) (b : ℕ) → found kind controls cap len h accept ≡ Some b → (accept b ≡ true) × Contains (walk controls cap) b
  found_walked accept b e = grind (arith, common_steps, cases_eq, none-some, eq-eqb, finds_walked, found_is)

  -- ---- a lookup depends only on the accepted ones of the full buckets

  abbrev Agree : (ℕ → Bool) → (ℕ → Bool) → Type 0
  Agree P Q = (b : ℕ) → Contains (walk controls cap) b → P b ≡ Q b

  answers_agree : (P Q : ℕ → Bool) → Agree P Q → (ps : List ℕ) → ((p : ℕ) → list_any (eqb p) ps ≡ true → list_any (eqb p) (strides h cap) ≡ true)
      → found_along kind controls cap (tag h) P ps ≡ found_along kind controls cap (tag h) Q ps
  answers_agree P Q same [] sub = refl
  answers_agree P Q same (p ∷ ps) sub =
      let xs = candidates kind controls cap (tag h) p in
      let on : (b : ℕ) → list_any (eqb b) xs ≡ true → P b ≡ Q b = λ b m. same b (candidate_walked p b (sub p (or_left (eqb p p) (list_any (eqb p) ps) (eq-eqb p p refl))) m) in
      let rest = answers_agree P Q same ps (λ q m. sub q (or_right (eqb q p) (list_any (eqb q) ps) m)) in
      found_along_cons kind controls cap (tag h) P p ps
      ∙ rw (any_agree P Q xs on, find_agree P Q xs on, rest) (sym (found_along_cons kind controls cap (tag h) Q p ps))

  pub found_agree : (P Q : ℕ → Bool) → Agree P Q → found kind controls cap len h P ≡ found kind controls cap len h Q
  found_agree P Q same = grind (arith, common_steps, cases_eq, eq-eqb, found_is, answers_agree)

-- ---- tables without misplaced items

none_filtered : (P : ℕ → Bool) (xs : List ℕ) (x : ℕ) → length (filter P xs) ≡ 0 → list_any (eqb x) xs ≡ true → P x ≡ false
none_filtered P xs x e m = grind (arith, common_steps, cases_Bool (P x), nil_from_length (filter P xs) e, any_filter x P xs, and_from, true≢false)

pub found_at_is : (b : ℕ) (o : Option ℕ) → is_found_at b o ≡ true → o ≡ Some b
found_at_is b found e = grind (arith, common_steps, true≢false, eqb-true)

module _ (kind : Kind) (cap len hash : ℕ) (controls : List ℕ) (accept : ℕ → Bool) (hash_at : ℕ → ℕ) (same_at : ℕ → ℕ → Bool) (law : IsKind kind) (accepted : AreValidControls cap len controls)
    (fits : hash < 2 ^ 64) (none : misplaced kind controls cap len hash_at same_at ≡ 0) (accepts_same : AcceptsSame controls cap hash accept hash_at same_at) where
  found_itself : (b : ℕ) → Contains (walk controls cap) b → accept b ≡ true → found kind controls cap len hash accept ≡ Some b
  found_itself b here ok = grind (arith, common_steps, contains_member b (walk controls cap) here, none_filtered, found_at_is, not-false, found_agree)

  pub complete : MatchOption (found kind controls cap len hash accept) (NoneAccepted controls cap accept) (AloneAccepted controls cap accept)
  complete = grind (arith, common_steps, cases_option, cases_Bool, none-some, found_itself, found_walked, same_Some)

-- ---- written control bytes

filter_map_length : (P : ℕ → Bool) (f : ℕ → ℕ) (xs : List ℕ) → length (filter P (map f xs)) ≡ length (filter (λ x. P (f x)) xs)
filter_map_length P f [] = refl
filter_map_length P f (x ∷ xs) = grind (arith, common_steps, cases_Bool, filter_map_length P f xs)

-- a list by its indices
by_indices : (xs : List ℕ) → xs ≡ map (λ i. get_or xs i 0) (range_with_len 0 (length xs))
by_indices xs =
    let f = λ (i : ℕ). get_or xs i 0 in
    let n = length xs in
    ext_get_or 0 xs (map f (range_with_len 0 n)) (sym (length-map-range_with_len f 0 n))
    (λ i h. sym (get_or-map-range_with_len f 0 n i i 0 h (omega arith)))

module _ (kind : Kind) (cap : ℕ) (hashes homes controls : List ℕ) (hash_at : ℕ → ℕ) (same_at : ℕ → ℕ → Bool) (law : IsKind kind) (room : length hashes < cap)
    (fits : (j : ℕ) → j < length hashes → get_or hashes j 0 < 2 ^ 64) (w : AreWrittenControls cap hashes homes controls) (same : IsSameness hash_at same_at hashes homes) where
  distinct_walk : IsDistinct eqb (walk controls cap)
  unfolding walk
  distinct_walk = distinct_filter (λ b. is_full (get_or controls b 0)) (range_with_len 0 cap) (distinct_range cap)

  home_in : (i : ℕ) → i < length homes → Contains homes (get_or homes i 0)
  home_in i h = (i, h, get_or_default homes i (get_or homes i 0) 0 h)

  -- the first home bucket whose item is the same as the one with the number `i`
  own_first : (i : ℕ) → i < length homes → (k : ℕ) × (k ≤ i) × (same_at (get_or homes i 0) (get_or homes k 0) ≡ true) × (found kind controls cap (length hashes) (hash_at (get_or homes i 0)) (same_at (get_or homes i 0)) ≡ Some (get_or homes k 0))
      × ((j : ℕ) → j < k → same_at (get_or homes i 0) (get_or homes j 0) ≡ false)
  own_first i h =
      let n = w.placed.count in
      let b = get_or homes i 0 in
      let Q = same_at b in
      let self : Q b ≡ true = same.reflexive b (home_in i h) in
      let some : list_any Q homes ≡ true = any_member Q b homes (contains_member b homes (home_in i h)) self in
      let k = position_or_len Q homes in
      let lk : k < length homes = first_within Q homes some in
      let ki : k ≤ i = grind (arith, common_steps, cases_lt, true≢false, fails_before_first) in
      let e : hash_at b ≡ get_or hashes i 0 = same.hashed i h in
      let f : found kind controls cap (length hashes) (hash_at b) Q ≡ find Q homes = search (rules, found_written, home_in) in
      (k, ki, passes_at_first Q homes 0 lk, f ∙ find_at Q homes ∙ slice_get-get_or homes k 0 lk, λ j lj. fails_before_first Q homes j 0 lj)

  none_before : (i : ℕ) → i < length homes → ((j : ℕ) → j < i → same_at (get_or homes i 0) (get_or homes j 0) ≡ false) → repeats_earlier same_at homes i ≡ false
  none_before i h none = elim (cases_Bool (repeats_earlier same_at homes i)) [
    | inr f ↦ f
    | inl t ↦
        let a = Any-from_list_any (same_at (get_or homes i 0)) (take i homes) t in
        let l = length-take i homes in
        let less : a.0 < i = omega (arith, a.2, l) in
        let at : get_or homes a.0 0 ≡ a.1 = sym (get_or-take i homes a.0 0 less) ∙ sym (get_or_default (take i homes) a.0 a.1 0 a.2) ∙ a.3 in
        absurd (true≢false (sym a.4 ∙ rw at at (none a.0 less)))
  ]

  own_is : (i : ℕ) → i < length homes → is_misplaced kind controls cap (length hashes) hash_at same_at (get_or homes i 0) ≡ repeats_earlier same_at homes i
  own_is i h =
      let b = get_or homes i 0 in
      let k = own_first i h in
      let t : length (take i homes) ≡ i = length-take i homes ∙ omega arith in
      ap (λ o. not (is_found_at b o)) k.3 ∙ elim (cases_eq k.0 i) [
        | inl e ↦
            rw (eq-eqb b (get_or homes k.0 0) (ap (λ z. get_or homes z 0) (sym e)))
            (sym (none_before i h (λ j lj. k.4 j (omega (arith, e)))))
        | inr ne ↦
            let less : k.0 < i = omega (arith, k.1) in
            rw (ne_eqb b (get_or homes k.0 0) (λ e. homes_apart cap hashes homes w.placed k.0 i less h (sym e)))
            (sym (list_any_at (same_at b) (take i homes) k.0 0 (omega (arith, t)) (rw (get_or-take i homes k.0 0 less) (k.2))))
      ]

  pub repeated_misplaced : misplaced kind controls cap (length hashes) hash_at same_at ≡ repeated same_at homes
  repeated_misplaced =
      let P = is_misplaced kind controls cap (length hashes) hash_at same_at in
      let n = length homes in
      let d : length (filter P (walk controls cap)) ≡ length (filter P homes) =
      length-from_same_keys nat_eq_equiv (filter P (walk controls cap)) (filter P homes) (distinct_filter P (walk controls cap) distinct_walk)
      (distinct_filter P homes (distinct_homes cap hashes homes w.placed))
      (λ q. any_filter q P (walk controls cap) ∙ ap (λ t. t && P q) (full_home cap hashes homes controls q (omega arith) w fits) ∙ sym (any_filter q P homes)) in
      d ∙ ap (λ xs. length (filter P xs)) (by_indices homes) ∙ filter_map_length P (λ i. get_or homes i 0) (range_with_len 0 n)
      ∙ ap length (range_agree (λ i. P (get_or homes i 0)) (repeats_earlier same_at homes) 0 n (λ i from to. own_is i (omega (arith, to))))
