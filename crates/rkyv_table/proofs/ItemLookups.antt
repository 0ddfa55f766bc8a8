-- If no item is misplaced, a lookup finds the only accepted item.
use Rattle.std.proofs.Common.{◌≡◌, ℕ, ◌<◌, ◌^◌, ◌∙◌, inl, inr, refl, sym, ap, subst, arith, List, [], ◌∷◌, Bool, true, false, eqb, filter, get_or, map, Option, Some, None}
use Rattle.std.specs.Int.{Width}
use Rattle.std.specs.List.{AllByRecursion, Contains, IsDistinct, list_any, range_with_len}
use Rattle.std.specs.Option.{option_map, option_to_list}
use Rattle.std.specs.Prelude.{MatchOption}
use Rattle.std.proofs.lemmas.Bool.{cases_Bool, cases_eq, eq-eqb, eqb-true, false≢true, or_cases, or_left, or_right}
use Rattle.rkyv_scan.specs.{generic_kind, is_full}
use Rattle.rkyv_scan.specs.Lemmas.KindLaws.{word_lawful}
use Rattle.rkyv_base.specs.{ElementSpec, IsElement, Viewable}
use Rattle.rkyv_table.specs.{AcceptsSame, AloneAccepted, FindsOnlyItem, HasItemAt, IsOnlyAccepted, NoneAccepted, cap_at, found, item_at, item_found, item_positions, len_at, misplaced_items, table_controls, table_spec, walk}
use Rattle.rkyv_table.proofs.Lists.{contains_member, distinct_filter, member_contains}
use Rattle.rkyv_table.proofs.Misplaced.{complete}
use Rattle.rkyv_table.proofs.ValidTable.{controls_accepted, no_items}
use Rattle.rkyv_table.proofs.Walks.{walked_full}
use Rattle.rkyv_table.proofs.WrittenAccepted.{distinct_range}

-- ---- filtered lists of distinct numbers

filter_none : (P : ℕ → Bool) (xs : List ℕ) → ((y : ℕ) → list_any (eqb y) xs ≡ true → P y ≡ false) → filter P xs ≡ []
filter_none P [] none = refl
filter_none P (x ∷ xs) none =
    rw (none x (or_left (eqb x x) (list_any (eqb x) xs) (eq-eqb x x refl))) (filter_none P xs (λ y m. none y (or_right (eqb y x) (list_any (eqb y) xs) m)))

not_member : (x : ℕ) (xs : List ℕ) → AllByRecursion (λ y. eqb x y ≡ false) xs → list_any (eqb x) xs ≡ false
not_member x [] fresh = refl
not_member x (y ∷ ys) fresh = rw fresh.0 (not_member x ys fresh.1)

filter_alone : (P : ℕ → Bool) (i : ℕ) (xs : List ℕ) → IsDistinct eqb xs → list_any (eqb i) xs ≡ true → P i ≡ true
    → ((y : ℕ) → list_any (eqb y) xs ≡ true → P y ≡ true → y ≡ i) → filter P xs ≡ i ∷ []
unfolding IsDistinct
filter_alone P i [] distinct member ok alone = absurd (false≢true member)
filter_alone P i (x ∷ xs) distinct member ok alone =
    let later : (y : ℕ) → list_any (eqb y) xs ≡ true → list_any (eqb y) (x ∷ xs) ≡ true = λ y m. or_right (eqb y x) (list_any (eqb y) xs) m in
    elim (cases_Bool (P x)) [
      | inl t ↦
          let e : x ≡ i = alone x (or_left (eqb x x) (list_any (eqb x) xs) (eq-eqb x x refl)) t in
          let rest : filter P xs ≡ [] = filter_none P xs (λ y m. elim (cases_Bool (P y)) [
            | inl u ↦ absurd (false≢true (sym (not_member x xs distinct.0) ∙ subst (λ z. list_any (eqb z) xs ≡ true) (alone y (later y m) u ∙ sym e) m))
            | inr f ↦ f
          ]) in
          rw (t, rest) (ap (λ z. z ∷ []) e)
      | inr f ↦ elim (or_cases (eqb i x) (list_any (eqb i) xs) member) [
        | inl s ↦ absurd (false≢true (sym f ∙ ap P (sym (eqb-true i x s)) ∙ ok))
        | inr m ↦ rw f (filter_alone P i xs distinct.1 m ok (λ y n u. alone y (later y n) u))
      ]
    ]

filter_map : (P : ℕ → Bool) (f : ℕ → ℕ) (xs : List ℕ) → filter P (map f xs) ≡ map f (filter (λ x. P (f x)) xs)
filter_map P f [] = refl
filter_map P f (x ∷ xs) =
    let rest = filter_map P f xs in
    elim (cases_Bool (P (f x))) [ inl t ↦ rw t (ap (λ (ys : List ℕ). f x ∷ ys) rest) | inr e ↦ rw e rest ]

distinct_walk : (controls : List ℕ) (cap : ℕ) → IsDistinct eqb (walk controls cap)
unfolding walk
distinct_walk controls cap = distinct_filter (λ b. is_full (get_or controls b 0)) (range_with_len 0 cap) (distinct_range cap)

-- ---- from buckets to positions

module _ (w : Width) (s : ElementSpec) (law : IsElement s) (b : List ℕ) (p hash : ℕ) (accept : ℕ → Bool) (hash_of : ℕ → ℕ) (same : ℕ → ℕ → Bool) (view : Viewable (table_spec w s) b p)
    (small : hash < 2 ^ 64) (none : misplaced_items w s.size b p hash_of same ≡ 0) (hashed : (q : ℕ) → HasItemAt w s.size b p q → accept q ≡ true → hash_of q ≡ hash)
    (alike : (q r : ℕ) → HasItemAt w s.size b p q → HasItemAt w s.size b p r → accept q ≡ true → accept r ≡ same q r) where
  abbrev at : ℕ → ℕ
  at = item_at w s.size b p

  abbrev cap : ℕ
  cap = cap_at w b p

  abbrev controls : List ℕ
  controls = table_controls w b p

  abbrev accepts : ℕ → Bool
  accepts i = accept (at i)

  there : (i : ℕ) → Contains (walk controls cap) i → HasItemAt w s.size b p (at i)
  there i c = (i, walked_full cap controls i c, refl)

  accepts_same : AcceptsSame controls cap hash accepts (λ i. hash_of (at i)) (λ i j. same (at i) (at j))
  accepts_same = record {
    hashed = λ i c ok. hashed (at i) (there i c) ok;
    same = λ i j c d ok. alike (at i) (at j) (there i c) (there j d) ok;
  }

  by_bucket : (o : Option ℕ) → MatchOption o (NoneAccepted controls cap accepts) (AloneAccepted controls cap accepts) → IsOnlyAccepted w s.size b p accept (option_map at o)
  by_bucket None n = filter_map accept at (walk controls cap) ∙ ap (map at) (filter_none accepts (walk controls cap) (λ i m. n i (member_contains i (walk controls cap) m)))
  by_bucket (Some i) a =
      filter_map accept at (walk controls cap)
      ∙ ap (map at) (filter_alone accepts i (walk controls cap) (distinct_walk controls cap) (contains_member i (walk controls cap) a.walked) a.accepted (λ j m t. a.alone j (member_contains j (walk controls cap) m) t))

  pub only_found : IsOnlyAccepted w s.size b p accept (item_found w s.size b p hash accept)
  only_found = elim (cases_eq cap 0) [
    | inl z ↦
        let no : found generic_kind controls cap (len_at w b p) hash accepts ≡ None = ap (λ n. found generic_kind controls cap n hash accepts) (no_items w s law b p view z) in
        subst (λ o. IsOnlyAccepted w s.size b p accept (option_map at o)) (sym no) (by_bucket None (λ i c. absurd (omega (arith, z, (walked_full cap controls i c).0))))
    | inr some ↦
        by_bucket (found generic_kind controls cap (len_at w b p) hash accepts)
        (complete generic_kind cap (len_at w b p) hash controls accepts (λ i. hash_of (at i)) (λ i j. same (at i) (at j)) word_lawful (controls_accepted w s law b p view (omega arith)) small none accepts_same)
  ]

pub finds_only_item : (w : Width) (s : ElementSpec) → IsElement s → FindsOnlyItem w s
finds_only_item w s law b p hash accept hash_of same view small none hashed alike = only_found w s law b p hash accept hash_of same view small none hashed alike
