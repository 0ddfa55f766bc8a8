-- The first element of a list that passes a test, in steps over parts of the list.
use Rattle.std.proofs.Common.{◌≡◌, ℕ, ◌+◌, ◌%◌, ◌<◌, ◌≤◌, ◌^◌, ◌-◌, Bool, true, false, not, cond, ltb, List, length, get_or, map, take, drop, replicate, Option, Some, None, sym, ap, subst, ◌∙◌, arith, ⊎_elim, w8}
use Rattle.std.proofs.lemmas.Grind.{common_steps}
use Rattle.std.specs.List.{position, prefix_len}
use Rattle.std.specs.Option.{is_some}
use Rattle.std.specs.Simd.Lanes.{mask_l}
use Rattle.std.proofs.lemmas.Bool.{cases_lt, le-ltb, lt-ltb, not-true}
use Rattle.std.proofs.lemmas.Option.{none-some}
use Rattle.std.proofs.lemmas.List.{get_or-drop, get_or-take, length-map}
use Rattle.std.proofs.lemmas.List.Sums.{prefix_len_is, prefix_len_passes}
use Rattle.std.proofs.lemmas.List.Quantifiers.{position-Some}
use Rattle.std.proofs.lemmas.Nat.Bits.{bit_at-trailing_zeros}
use Rattle.std.proofs.lemmas.Simd.{mask_l-lt, mask_l-mod, tops_compared, trailing_mask_l, zip2_splat_left}
use lib.Lanes.{top, zip2}
use lib.Count.{count_trailing_zeros}

-- none of the first `n` elements passes
abbrev pub NoneBelow : (ℕ → Bool) → List ℕ → ℕ → Type 0
NoneBelow p xs n = (k : ℕ) → k < n → p (get_or xs k 0) ≡ false

position_is : (p : ℕ → Bool) (xs : List ℕ) (n : ℕ) → prefix_len (λ x. not (p x)) xs ≡ n → n < length xs → Some n ≡ position p xs
position_is p xs n e l = sym (ap (λ m. cond (ltb m (length xs)) (Some m) None) e ∙ ap (λ b. cond b (Some n) None) (lt-ltb n (length xs) l))

position_none : (p : ℕ → Bool) (xs : List ℕ) → prefix_len (λ x. not (p x)) xs ≡ length xs → None ≡ position p xs
position_none p xs e = sym (ap (λ m. cond (ltb m (length xs)) (Some m) None) e ∙ ap (λ b. cond b (Some (length xs)) None) (le-ltb (length xs) (length xs) (omega arith)))

-- `to_bitmask` of the comparison `t` of a splat with eight bytes
pub splat_bitmask : (t : ℕ → ℕ → Bool) (y : ℕ) (xs : List ℕ) → length xs ≡ 8
    → mask_l (map (top 7) (zip2 (λ a b. cond (t a b) (2 ^ 8 - 1) 0) (replicate 8 y) xs)) % 2 ^ 64 ≡ mask_l (map (t y) xs)
splat_bitmask t y xs long = grind (arith, common_steps, tops_compared w8 t (replicate 8 y) xs, zip2_splat_left t y 8 xs long, mask_l-mod (map (t y) xs) 64 (omega (arith, length-map xs (t y))), length-map xs (t y))

-- the first of eight that passes, by the mask of those that pass
pub some_marked : (p : ℕ → Bool) (xs : List ℕ) → length xs ≡ 8 → (mask_l (map p xs) ≡ 0 → ⊥) → Some (count_trailing_zeros 64 (mask_l (map p xs))) ≡ position p xs
some_marked p xs long some =
    let m = mask_l (map p xs) in
    let pos : 0 < m = omega arith in
    let l : length (map p xs) ≡ 8 = length-map xs p ∙ long in
    let small : m < 2 ^ 8 = subst (λ n. m < 2 ^ n) l (mask_l-lt (map p xs)) in
    grind (arith, common_steps, bit_at-trailing_zeros w8 m pos small, trailing_mask_l p 8 xs (omega arith) pos, trailing_mask_l p 64 xs (omega arith) pos, position_is)

-- `ys`: part of `xs` from `at` on
pub record IsStretch (xs ys : List ℕ) (at : ℕ) : Type 0 where
  pub inside : at + length ys ≤ length xs
  pub same : (k : ℕ) → k < length ys → get_or ys k 0 ≡ get_or xs (at + k) 0

pub none_below : (p : ℕ → Bool) (ys : List ℕ) → None ≡ position p ys → NoneBelow p ys (length ys)
none_below p ys e k l = grind (arith, common_steps, ⊎_elim, none-some, position_is, not-true, prefix_len_passes, cases_lt)

both_below : (p : ℕ → Bool) (xs ys : List ℕ) (at n : ℕ) → IsStretch xs ys at → n ≤ length ys → NoneBelow p xs at → NoneBelow p ys n → NoneBelow p xs (at + n)
both_below p xs ys at n s le before here k l =
    ⊎_elim (λ (b : k < at). before k b)
    (λ (g : at ≤ k).
    let d : at + (k - at) ≡ k = omega arith in
    grind (arith, common_steps))
    (cases_lt k at)

-- the first element that passes is in a part, and none passes before it
pub stretch_hit : (p : ℕ → Bool) (xs ys : List ℕ) (at n : ℕ) → IsStretch xs ys at → NoneBelow p xs at → Some n ≡ position p ys → Some (at + n) ≡ position p xs
stretch_hit p xs ys at n s before e =
    let f = position-Some p ys n 0 (sym e) in
    let i = s.inside in
    let l = f.0 in
    let hit : p (get_or xs (at + n) 0) ≡ true = ap p (sym (s.same n f.0)) ∙ f.1 in
    position_is p xs (at + n) (prefix_len_is (λ x. not (p x)) xs (at + n) 0 (omega arith) (λ k m. ap not (both_below p xs ys at n s (omega arith) before f.2 k m)) (λ m. ap not hit)) (omega arith)

pub stretch_miss : (p : ℕ → Bool) (xs ys : List ℕ) (at : ℕ) → IsStretch xs ys at → NoneBelow p xs at → None ≡ position p ys → NoneBelow p xs (at + length ys)
stretch_miss p xs ys at s before e = both_below p xs ys at (length ys) s (omega arith) before (none_below p ys e)

pub none_first : (p : ℕ → Bool) (xs : List ℕ) (n : ℕ) → length xs ≤ n → NoneBelow p xs n → None ≡ position p xs
none_first p xs n le below =
    position_none p xs (prefix_len_is (λ x. not (p x)) xs (length xs) 0 (omega arith) (λ k m. ap not (below k (omega arith))) (λ m. absurd (omega arith)))

-- the next eight elements from `at` on, and all of them
pub eight : (xs : List ℕ) (at : ℕ) → at + 8 ≤ length xs → length (take 8 (drop at xs)) ≡ 8
eight xs at le = grind (arith, common_steps)

pub whole : (xs : List ℕ) (at : ℕ) → at ≤ length xs → at + length (drop at xs) ≡ length xs
whole xs at le = grind (arith, common_steps)

pub eight_stretch : (xs : List ℕ) (at : ℕ) → at + 8 ≤ length xs → IsStretch xs (take 8 (drop at xs)) at
eight_stretch xs at le = grind (arith, eight, get_or-take, get_or-drop)

pub rest_stretch : (xs : List ℕ) (at : ℕ) → at ≤ length xs → IsStretch xs (drop at xs) at
rest_stretch xs at le = grind (arith, common_steps, whole, get_or-drop)

pub is_absent : (o : Option ℕ) → is_some o ≡ false → None ≡ o
is_absent found e = grind (arith, common_steps)
