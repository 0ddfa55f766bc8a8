-- Lists made by `filter`, `map` and `range_with_len`: membership, distinctness, and
-- the first that passes.
use Rattle.std.proofs.Common.{◌≡◌, ◌≢◌, ℕ, zero, suc, ◌+◌, ◌-◌, ◌<◌, ◌≤◌, inl, inr, refl, sym, ap, ◌∙◌, arith, List, [], ◌∷◌, Bool, true, false, ◌&&◌, ◌||◌, eqb, filter, length, map, Option, Some, None}
use Rattle.std.proofs.lemmas.Grind.{common_steps}
use Rattle.std.specs.Prelude.{slice_get, slice_set}
use Rattle.std.specs.List.{AllByRecursion, Contains, IsDistinct, find, flat_map, list_any, range_with_len}
use Rattle.std.specs.Option.{option_map}
use Rattle.std.proofs.lemmas.List.{get_or-set_other, get_or-set_same, get_or_default, length-set}
use Rattle.std.proofs.lemmas.List.FromFn.{get_or-map-range_with_len, get_or-range_with_len, length-map-range_with_len, length-range_with_len}
use Rattle.std.proofs.lemmas.List.Folds.{Any-from_list_any, list_any-append, list_any_at}
use Rattle.std.proofs.lemmas.Bool.{cases_eq, cases_Bool, eqb-true, eq-eqb, ne_eqb, or_parts, or_left, or_right, or_from, false≢true}
use Rattle.std.proofs.lemmas.Option.{get_or_from_slice_get, none-some, same_Some, slice_get-get_or, slice_get_within}
use Rattle.std.proofs.lemmas.Map.Keys.{IsDistinct-from_apart}
use Rattle.std.proofs.Math.Bool.{and-false}

-- the image of an option is `Some` of the image of its item
pub option_map_some : {A B : Type 0} (f : A → B) (o : Option A) (y : B) → option_map f o ≡ Some y → (x : A) × (o ≡ Some x) × (f x ≡ y)
option_map_some f o y e = grind (arith, common_steps, none-some, same_Some)

-- ---- membership

pub any_filter : (x : ℕ) (p : ℕ → Bool) (xs : List ℕ) → list_any (eqb x) (filter p xs) ≡ (list_any (eqb x) xs && p x)
any_filter x p [] = refl
any_filter x p (y ∷ ys) = grind (arith, common_steps, cases_Bool, eqb-true, and-false, any_filter x p ys)

-- an element of a list, by a test and by its index
pub member_contains : (x : ℕ) (xs : List ℕ) → list_any (eqb x) xs ≡ true → Contains xs x
member_contains x xs h =
    let a = Any-from_list_any (eqb x) xs h in
    let e = eqb-true x a.1 a.4 in
    (a.0, a.2, get_or_default xs a.0 x a.1 a.2 ∙ a.3 ∙ sym e)

pub contains_member : (x : ℕ) (xs : List ℕ) → Contains xs x → list_any (eqb x) xs ≡ true
contains_member x xs c = list_any_at (eqb x) xs c.0 x c.1 (rw c.2 (eq-eqb x x refl))

pub any_map_range : (f : ℕ → ℕ) (n i : ℕ) → i < n → list_any (eqb (f i)) (map f (range_with_len 0 n)) ≡ true
any_map_range f n i h = grind (arith, common_steps, get_or-map-range_with_len f 0 n i i 0 h (omega arith), length-map-range_with_len f 0 n, eq-eqb (f i) (f i) refl, list_any_at)

pub from_map_range : (f : ℕ → ℕ) (n x : ℕ) → list_any (eqb x) (map f (range_with_len 0 n)) ≡ true → (i : ℕ) × (i < n) × (f i ≡ x)
from_map_range f n x h =
    let a = Any-from_list_any (eqb x) (map f (range_with_len 0 n)) h in
    grind (arith, common_steps, length-map-range_with_len, get_or-map-range_with_len, eqb-true)

-- the numbers from `k` on are `k` and those from `k + 1` on
pub range_cons : (k n : ℕ) → k < n → range_with_len k (n - k) ≡ k ∷ range_with_len (k + 1) (n - (k + 1))
range_cons k n h = let e : n - k ≡ suc (n - (k + 1)) = omega arith in ap (range_with_len k) e

-- ---- distinctness

fresh_filter : (P : ℕ → Type 0) (p : ℕ → Bool) (xs : List ℕ) → AllByRecursion P xs → AllByRecursion P (filter p xs)
fresh_filter P p [] h = h
fresh_filter P p (x ∷ xs) h = let ih = fresh_filter P p xs h.1 in
    elim (cases_Bool (p x)) [ inl t ↦ rw t (h.0, ih) | inr f ↦ rw f ih ]

pub distinct_filter : (p : ℕ → Bool) (xs : List ℕ) → IsDistinct eqb xs → IsDistinct eqb (filter p xs)
unfolding IsDistinct
distinct_filter p [] h = h
distinct_filter p (x ∷ xs) h = let ih = distinct_filter p xs h.1 in
    elim (cases_Bool (p x)) [ inl t ↦ rw t (fresh_filter (λ y. eqb x y ≡ false) p xs h.0, ih) | inr f ↦ rw f ih ]

pub distinct_map_range : (f : ℕ → ℕ) (n : ℕ) → ((i j : ℕ) → i < n → j < n → f i ≡ f j → i ≡ j) → IsDistinct eqb (map f (range_with_len 0 n))
distinct_map_range f n inj =
    let l = length-map-range_with_len f 0 n in
    IsDistinct-from_apart eqb (map f (range_with_len 0 n)) (λ i j d ij h. grind (arith, common_steps, get_or-map-range_with_len, ne_eqb))

-- ---- tests of some element

pub any_map_filter : (P m : ℕ → Bool) (f : ℕ → ℕ) (xs : List ℕ) → list_any P (map f (filter m xs)) ≡ list_any (λ x. m x && P (f x)) xs
any_map_filter P m f [] = refl
any_map_filter P m f (x ∷ xs) = let ih = any_map_filter P m f xs in
    elim (cases_Bool (m x)) [ inl t ↦ rw (t, ih) refl | inr e ↦ rw (e, ih) refl ]

pub any_member : (P : ℕ → Bool) (x : ℕ) (xs : List ℕ) → list_any (eqb x) xs ≡ true → P x ≡ true → list_any P xs ≡ true
any_member P x [] h t = absurd (false≢true h)
any_member P x (y ∷ ys) h t = elim (cases_Bool (eqb x y)) [
  | inl e ↦ let s = ap P (eqb-true x y e) in or_left (P y) (list_any P ys) (sym s ∙ t)
  | inr e ↦ let h' = rw e at h in or_right (P y) (list_any P ys) (any_member P x ys h' t)
]

pub any_flat_map : (P : ℕ → Bool) (f : ℕ → List ℕ) (xs : List ℕ) → list_any P (flat_map f xs) ≡ list_any (λ x. list_any P (f x)) xs
any_flat_map P f [] = refl
any_flat_map P f (x ∷ xs) = list_any-append P (f x) (flat_map f xs) ∙ ap (λ b. list_any P (f x) || b) (any_flat_map P f xs)

pub any_range : (P : ℕ → Bool) (a n i : ℕ) → a ≤ i → i < a + n → P i ≡ true → list_any P (range_with_len a n) ≡ true
any_range P a zero i lo hi t = absurd (omega arith)
any_range P a (suc n) i lo hi t = elim (cases_eq a i) [
  | inl e ↦ or_left (P a) (list_any P (range_with_len (a + 1) n)) (ap P e ∙ t)
  | inr e ↦ or_right (P a) (list_any P (range_with_len (a + 1) n)) (any_range P (a + 1) n i (omega arith) (omega arith) t)
]

pub none_range : (P : ℕ → Bool) (a n : ℕ) → ((i : ℕ) → a ≤ i → i < a + n → P i ≡ false) → list_any P (range_with_len a n) ≡ false
none_range P a zero h = refl
none_range P a (suc n) h = or_from (P a) (list_any P (range_with_len (a + 1) n)) (h a (omega arith) (omega arith))
    (none_range P (a + 1) n (λ i lo hi. h i (omega arith) (omega arith)))

pub in_range : (n q : ℕ) → list_any (eqb q) (range_with_len 0 n) ≡ true → q < n
in_range n q m =
    let l = length-range_with_len 0 n in
    let w = Any-from_list_any (eqb q) (range_with_len 0 n) m in
    grind (arith, common_steps, get_or-range_with_len, eqb-true)

-- ---- the first that passes

pub find_none : {X : Type 0} (P : X → Bool) (xs : List X) → list_any P xs ≡ false → find P xs ≡ None
find_none P [] h = refl
find_none P (x ∷ xs) h = let u = or_parts (P x) (list_any P xs) h in rw u.0 (find_none P xs u.1)

pub none_find : {X : Type 0} (P : X → Bool) (xs : List X) → find P xs ≡ None → list_any P xs ≡ false
none_find P [] h = refl
none_find P (x ∷ xs) h = elim (cases_Bool (P x)) [
  | inl t ↦ let h' = rw t at h in absurd (none-some x (sym h'))
  | inr e ↦ let h' = rw e at h in rw e (none_find P xs h')
]

pub some_find : {X : Type 0} (P : X → Bool) (xs : List X) (x : X) → find P xs ≡ Some x → (list_any P xs ≡ true) × (P x ≡ true)
some_find P [] x h = absurd (none-some x h)
some_find P (y ∷ ys) x h = elim (cases_Bool (P y)) [
  | inl t ↦ let h' = rw t at h in let s = same_Some y x h' in (or_left (P y) (list_any P ys) t, sym (ap P s) ∙ t)
  | inr e ↦ let h' = rw e at h in let ih = some_find P ys x h' in (or_right (P y) (list_any P ys) ih.0, ih.1)
]

pub find_map_filter : (P m : ℕ → Bool) (f : ℕ → ℕ) (xs : List ℕ) → find P (map f (filter m xs)) ≡ option_map f (find (λ x. m x && P (f x)) xs)
find_map_filter P m f [] = refl
find_map_filter P m f (x ∷ xs) = grind (arith, common_steps, cases_Bool, find_map_filter P m f xs)

-- the first element of a range that passes
pub record FirstIn (P : ℕ → Bool) (a n q : ℕ) : Type 0 where
  pub from : a ≤ q
  pub to : q < a + n
  pub yes : P q ≡ true
  pub no : (i : ℕ) → a ≤ i → i < q → P i ≡ false

later : (P : ℕ → Bool) (a q : ℕ) → P a ≡ false → ((i : ℕ) → a + 1 ≤ i → i < q → P i ≡ false) → (i : ℕ) → a ≤ i → i < q → P i ≡ false
later P a q e h i lo hi = elim (cases_eq a i) [ inl s ↦ sym (ap P s) ∙ e | inr s ↦ h i (omega arith) hi ]

pub first_range : (P : ℕ → Bool) (a n q : ℕ) → find P (range_with_len a n) ≡ Some q → FirstIn P a n q
first_range P a zero q h = absurd (none-some q h)
first_range P a (suc n) q h = elim (cases_Bool (P a)) [
  | inl t ↦ let h' = rw t at h in let s = same_Some a q h' in
      record { from = omega arith; to = omega arith; yes = sym (ap P s) ∙ t; no = λ i lo hi. absurd (omega arith) }
  | inr e ↦ let h' = rw e at h in let ih = first_range P (a + 1) n q h' in
      record { from = omega (arith, ih.from); to = omega (arith, ih.to); yes = ih.yes; no = λ i lo hi. later P a q e ih.no i lo hi }
]

pub range_first : (P : ℕ → Bool) (a n q : ℕ) → FirstIn P a n q → find P (range_with_len a n) ≡ Some q
range_first P a zero q f = absurd (omega (arith, f.from, f.to))
range_first P a (suc n) q f = elim (cases_eq a q) [
  | inl e ↦ let t = ap P e ∙ f.yes in rw t (ap Some e)
  | inr e ↦ let lo = f.from in let hi = f.to in
      let t = f.no a (omega arith) (omega arith) in
      rw t (range_first P (a + 1) n q (record { from = omega arith; to = omega arith; yes = f.yes; no = λ i l u. f.no i (omega arith) u }))
]

-- a property of the new item and of all others is one of each item, after one item is set
pub set_each : {X : Type 0} (P : ℕ → X → Type 0) (xs : List X) (n : ℕ) (y : X) → n < length xs → P n y → ((j : ℕ) (x : X) → slice_get xs j ≡ Some x → j ≢ n → P j x)
    → (j : ℕ) (x : X) → slice_get (slice_set xs n y) j ≡ Some x → P j x
set_each P xs n y inside own others j x e =
    grind (arith, common_steps, slice_get_within (slice_set xs n y) j x e, length-set xs n y, get_or_from_slice_get (slice_set xs n y) j x x e, cases_eq j n, get_or-set_same xs n y x inside, get_or-set_other, slice_get-get_or)
