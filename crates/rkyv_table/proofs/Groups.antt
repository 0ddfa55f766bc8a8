-- A stride, group by group.
use Rattle.std.proofs.Common.{◌≡◌, ◌↔◌, ℕ, zero, suc, ◌+◌, ◌*◌, ◌-◌, ◌/◌, ◌%◌, ◌^◌, ◌<◌, ◌≤◌, inl, inr, refl, sym, ap, ◌∙◌, arith, List, [], ◌∷◌, ◌++◌, Bool, true, false, ◌||◌, leb, length, map, filter, drop, take, get_or, Option, Some, None, get_or-take, get_or-drop}
use Rattle.std.proofs.lemmas.Grind.{common_steps}
use Rattle.std.specs.List.{find, list_any, range_with_len}
use Rattle.std.proofs.lemmas.List.{drop-drop, drop-take, map-append, take-take}
use Rattle.std.proofs.lemmas.List.Elements.{filter-append}
use Rattle.std.proofs.lemmas.List.Folds.{find-append, list_any-append}
use Rattle.std.proofs.Math.Pow.{pow_mono}
use Rattle.std.proofs.lemmas.Nat.{div-mul-add, mod-mul-add, pow-add}
use Rattle.std.proofs.Math.Nat.{mul-mod_left}
use Rattle.std.proofs.lemmas.Bool.{cases_Bool, or_left, or_right, false≢true}
use Rattle.rkyv_table.proofs.Coverage.{same_tests}
use Rattle.rkyv_scan.specs.{IsKind, Kind, indices_where}
use Rattle.rkyv_table.specs.{candidates, marked, stride_has_empty}

pub range_append : (a m n : ℕ) → range_with_len a (m + n) ≡ range_with_len a m ++ range_with_len (a + m) n
range_append a zero n = let e : a + 0 ≡ a = omega arith in let f : 0 + n ≡ n = omega arith in rw (e, f) refl
range_append a (suc m) n = let e : suc m + n ≡ suc (m + n) = omega arith in let f : a + suc m ≡ a + 1 + m = omega arith in rw (e, f, range_append (a + 1) m n) refl

-- a test of the indices from `c` on, as one of the offsets
pub filter_shift : (m m' : ℕ → Bool) (c i n : ℕ) → ((j : ℕ) → i ≤ j → j < i + n → m (c + j) ≡ m' j) → filter m (range_with_len (c + i) n) ≡ map (λ j. c + j) (filter m' (range_with_len i n))
filter_shift m m' c i zero h = refl
filter_shift m m' c i (suc n) h =
    let e = h i (omega arith) (omega arith) in
    let f : c + i + 1 ≡ c + (i + 1) = omega arith in
    let ih = filter_shift m m' c (i + 1) n (λ j lo hi. h j (omega arith) (omega arith)) in
    elim (cases_Bool (m' i)) [ inl t ↦ rw (e, t, f, ih) refl | inr t ↦ rw (e, t, f, ih) refl ]

any_shift : (P P' : ℕ → Bool) (c i n : ℕ) → ((j : ℕ) → i ≤ j → j < i + n → P (c + j) ≡ P' j) → list_any P (range_with_len (c + i) n) ≡ list_any P' (range_with_len i n)
any_shift P P' c i zero h = refl
any_shift P P' c i (suc n) h =
    let e = h i (omega arith) (omega arith) in
    let f : c + i + 1 ≡ c + (i + 1) = omega arith in
    let ih = any_shift P P' c (i + 1) n (λ j lo hi. h j (omega arith) (omega arith)) in
    rw (e, f, ih) refl

map_map : (f g : ℕ → ℕ) (xs : List ℕ) → map f (map g xs) ≡ map (λ x. f (g x)) xs
map_map f g [] = refl
map_map f g (x ∷ xs) = ap (λ ys. f (g x) ∷ ys) (map_map f g xs)

-- the buckets of the marked indices among the first `n` of a stride
unfoldable pub candidates_in : Kind → List ℕ → ℕ → ℕ → ℕ → ℕ → List ℕ
candidates_in kind controls cap t p n = map (λ q. q % cap) (filter (marked kind controls t p) (range_with_len p n))

unfoldable pub empty_in : List ℕ → ℕ → ℕ → Bool
empty_in controls p n = list_any (λ q. leb 128 (get_or controls q 0)) (range_with_len p n)

pub all_candidates : (kind : Kind) (controls : List ℕ) (cap t p : ℕ) → candidates_in kind controls cap t p 16 ≡ candidates kind controls cap t p
unfolding candidates_in candidates
all_candidates kind controls cap t p = refl

pub all_empty : (controls : List ℕ) (p : ℕ) → empty_in controls p 16 ≡ stride_has_empty controls p
unfolding empty_in stride_has_empty
all_empty controls p = refl

pub no_candidates : (kind : Kind) (controls : List ℕ) (cap t p : ℕ) → candidates_in kind controls cap t p 0 ≡ []
unfolding candidates_in
no_candidates kind controls cap t p = refl

pub no_empty : (controls : List ℕ) (p : ℕ) → empty_in controls p 0 ≡ false
unfolding empty_in
no_empty controls p = refl

-- one group more. `g`: its control bytes, `i`: its number
pub more_candidates : (kind : Kind) (controls g : List ℕ) (cap t p i : ℕ) → 0 < kind.width → g ≡ take kind.width (drop (p + i * kind.width) controls)
    → candidates_in kind controls cap t p ((i + 1) * kind.width) ≡ candidates_in kind controls cap t p (i * kind.width) ++ map (λ j. (p + i * kind.width + j) % cap) (filter (kind.marks g t) (range_with_len 0 kind.width))
unfolding candidates_in
more_candidates kind controls g cap t p i pos e =
    let w = kind.width in
    let a = i * w in
    let len : (i + 1) * w ≡ a + w = omega arith in
    let s = filter_shift (marked kind controls t p) (kind.marks g t) (p + a) 0 w (λ j lo hi'.
    let hi : j < w = omega arith in
    let d : p + a + j - p ≡ i * w + j = omega arith in
    let q = div-mul-add i w j hi in
    let r = mod-mul-add i w j hi in
    ap (λ x. kind.marks (take w (drop (p + x / w * w) controls)) t (x % w)) d
    ∙ ap (λ x. kind.marks (take w (drop (p + x * w) controls)) t ((i * w + j) % w)) q
    ∙ ap (λ x. kind.marks (take w (drop (p + i * w) controls)) t x) r
    ∙ ap (λ x. kind.marks x t j) (sym e)) in
    grind (arith, range_append, filter-append, map-append, map_map)

-- a control byte of a group is one of the control bytes
pub same_control : (controls g : List ℕ) (q w j : ℕ) → g ≡ take w (drop q controls) → j < w → get_or g j 0 ≡ get_or controls (q + j) 0
same_control controls g q w j e h = ap (λ xs. get_or xs j 0) e ∙ get_or-take w (drop q controls) j 0 h ∙ get_or-drop q controls j 0

pub more_empty : (controls g : List ℕ) (p i w : ℕ) → g ≡ take w (drop (p + i * w) controls)
    → empty_in controls p ((i + 1) * w) ≡ (empty_in controls p (i * w) || list_any (λ j. leb 128 (get_or g j 0)) (range_with_len 0 w))
unfolding empty_in
more_empty controls g p i w e =
    let a = i * w in
    let len : (i + 1) * w ≡ a + w = omega arith in
    let s = any_shift (λ q. leb 128 (get_or controls q 0)) (λ j. leb 128 (get_or g j 0)) (p + a) 0 w (λ j lo hi. rw (same_control controls g (p + a) w j e (omega arith)) refl) in
    grind (arith, common_steps, range_append, list_any-append)

-- a list with a kept element has one that passes
any_kept : (P : ℕ → Bool) (xs : List ℕ) → 0 < length (filter P xs) → list_any P xs ≡ true
any_kept P [] h = absurd (omega arith)
any_kept P (x ∷ xs) h = elim (cases_Bool (P x)) [ inl t ↦ or_left (P x) (list_any P xs) t | inr f ↦ let h' = rw f at h in or_right (P x) (list_any P xs) (any_kept P xs h') ]

kept_any : (P : ℕ → Bool) (xs : List ℕ) → list_any P xs ≡ true → 0 < length (filter P xs)
kept_any P [] h = absurd (false≢true h)
kept_any P (x ∷ xs) h = elim (cases_Bool (P x)) [ inl t ↦ rw t (omega arith) | inr f ↦ let h' = rw f at h in rw f (kept_any P xs h') ]

pub mark_is_any : (is_marked : Bool) (P : ℕ → Bool) (xs : List ℕ) → (is_marked ≡ true) ↔ (0 < length (filter P xs)) → is_marked ≡ list_any P xs
mark_is_any is_marked P xs h = grind (arith, common_steps, same_tests, any_kept, kept_any)

-- a group of a stride, as one of the control bytes
pub group_of : (controls s : List ℕ) (p a w : ℕ) → a + w ≤ 16 → s ≡ take 16 (drop p controls) → take w (drop a s) ≡ take w (drop (p + a) controls)
group_of controls s p a w le e = grind (arith, common_steps, drop-take a (16 - a) (drop p controls), take-take w (16 - a) (drop a (drop p controls)) (omega arith), drop-drop a p controls)

pub found_more : (kind : Kind) (controls g : List ℕ) (cap t p i : ℕ) (accept : ℕ → Bool) (r : Option ℕ) → 0 < kind.width → g ≡ take kind.width (drop (p + i * kind.width) controls)
    → find accept (candidates_in kind controls cap t p (i * kind.width)) ≡ None
    → r ≡ find accept (map (λ j. (p + i * kind.width + j) % cap) (filter (kind.marks g t) (range_with_len 0 kind.width)))
    → find accept (candidates_in kind controls cap t p ((i + 1) * kind.width)) ≡ r
found_more kind controls g cap t p i accept r pos e none is = grind (arith, common_steps, more_candidates kind controls g cap t p i pos e, find-append)

pub found_whole : (kind : Kind) (controls : List ℕ) (cap t p n b : ℕ) (accept : ℕ → Bool) → n ≤ 16
    → find accept (candidates_in kind controls cap t p n) ≡ Some b → find accept (candidates kind controls cap t p) ≡ Some b
unfolding candidates_in candidates
found_whole kind controls cap t p n b accept le h =
    let m = marked kind controls t p in
    let e : 16 ≡ n + (16 - n) = omega arith in
    grind (arith, common_steps, range_append p n (16 - n), filter-append m (range_with_len p n) (range_with_len (p + n) (16 - n)), map-append, find-append)

-- the width of a group divides sixteen
pub width_divides : (kind : Kind) → IsKind kind → 16 % kind.width ≡ 0
width_divides kind law =
    let k = law.power.0 in
    grind (arith, common_steps, pow-add 2 (4 - k) k, mul-mod_left (2 ^ (4 - k)) (2 ^ k))

pub width_small : (kind : Kind) → IsKind kind → kind.width ≤ 16
width_small kind law = rw law.power.2 (pow_mono {i = law.power.0} {j = 4} law.power.1)

pub group_fits : (i w : ℕ) → i < 16 / w → i * w + w ≤ 16
group_fits i w h = grind (arith, common_steps)

pub groups_end : (i w : ℕ) → 16 % w ≡ 0 → i ≤ 16 / w → 16 / w ≤ i → i * w ≡ 16
groups_end i w z a b = grind (arith, common_steps)

pub or_no : (b c : Bool) → c ≡ false → (b || c) ≡ b
or_no b c e = grind (arith, common_steps)

pub indices_are : (P : ℕ → Bool) (n : ℕ) → indices_where P n ≡ filter P (range_with_len 0 n)
unfolding indices_where
indices_are P n = refl
