-- The first index of a mask, and the others.
use Rattle.std.proofs.lemmas.Grind.{common_steps}
use Rattle.std.proofs.Common.{◌≡◌, ℕ, zero, suc, ◌+◌, ◌<◌, ◌≤◌, refl, sym, ap, arith, List, [], ◌∷◌, Bool, true, false, map, filter, drop, take, length, get_or, get_or-take, get_or-drop, Some, None}
use Rattle.rkyv_scan.specs.{IsKind, Kind, indices_where}
use Rattle.std.proofs.lemmas.List.Elements.{All-filter, All-from_get_or, All-get_or, filter_passes}
use Rattle.std.proofs.lemmas.List.FromFn.{get_or-range_with_len, length-range_with_len}
use Rattle.std.specs.List.{All, find, range_with_len, slice_get}
use Rattle.rkyv_table.specs.{IsFullInStride, IsMarked}
use Rattle.std.proofs.lemmas.Option.{none-some, same_Some}

pub head_found : (f : ℕ → ℕ) (accept : ℕ → Bool) (xs : List ℕ) (j : ℕ) → Some j ≡ slice_get xs 0 → accept (f j) ≡ true → Some (f j) ≡ find accept (map f xs)
head_found f accept [] j e t = absurd (none-some j (sym e))
head_found f accept (x ∷ xs) j e t = let s = same_Some j x e in let t' : accept (f x) ≡ true = rw s at t in rw t' (ap Some (ap f s))

pub none_found : (f : ℕ → ℕ) (accept : ℕ → Bool) (xs : List ℕ) → None ≡ slice_get xs 0 → None ≡ find accept (map f xs)
none_found f accept [] e = refl
none_found f accept (x ∷ xs) e = absurd (none-some x e)

pub head_skipped : (f : ℕ → ℕ) (accept : ℕ → Bool) (xs : List ℕ) (j : ℕ) → Some j ≡ slice_get xs 0 → accept (f j) ≡ false → find accept (map f xs) ≡ find accept (map f (drop 1 xs))
head_skipped f accept [] j e t = absurd (none-some j (sym e))
head_skipped f accept (x ∷ xs) j e t = let s = same_Some j x e in let t' : accept (f x) ≡ false = rw s at t in rw t' refl

-- the first of the remaining indices, as one of all
pub head_at : (ps : List ℕ) (n j : ℕ) → Some j ≡ slice_get (drop n ps) 0 → (n < length ps) × (get_or ps n 0 ≡ j)
head_at [] zero j e = absurd (none-some j (sym e))
head_at [] (suc n) j e = absurd (none-some j (sym e))
head_at (x ∷ xs) zero j e = (omega arith, sym (same_Some j x e))
head_at (x ∷ xs) (suc n) j e = let ih = head_at xs n j e in (omega (arith, ih.0), ih.1)

-- an index that passes the test
pub in_filter : (P : ℕ → Bool) (a n k : ℕ) → k < length (filter P (range_with_len a n)) → (get_or (filter P (range_with_len a n)) k 0 < a + n) × (P (get_or (filter P (range_with_len a n)) k 0) ≡ true)
in_filter P a n k h =
    let range = range_with_len a n in
    let count = length-range_with_len a n in
    let below : All (λ i. i < a + n) range = All-from_get_or (λ i. i < a + n) range 0 (λ i l. let e = get_or-range_with_len a n i 0 (omega (arith, l, count)) in omega (arith, e, l, count)) in
    let passes = All-get_or (λ i. P i ≡ true) (filter P range) k 0 h (filter_passes P range) in
    (All-get_or (λ i. i < a + n) (filter P range) k 0 h (All-filter P (λ i. i < a + n) range below), passes)

-- a marked index of the group at `at` is full
pub index_full : (kind : Kind) → IsKind kind → (t : ℕ) (stride group ps : List ℕ) (at k : ℕ) → t < 128 → group ≡ take kind.width (drop at stride)
    → ps ≡ indices_where (kind.marks group t) kind.width → k < length ps → (get_or ps k 0 < kind.width) × (get_or stride (at + get_or ps k 0) 0 < 128)
unfolding indices_where
index_full kind law t stride group ps at k ht e p h = grind (arith, common_steps, in_filter, get_or-take, get_or-drop)

-- the bucket of a marked index has a full control byte of the stride
pub marked_bucket_full : (kind : Kind) → IsKind kind → (t p cap at : ℕ) (stride group ps : List ℕ) → t < 128 → at + kind.width ≤ 16 → group ≡ take kind.width (drop at stride)
    → ps ≡ indices_where (kind.marks group t) kind.width → (b : ℕ) → IsMarked (p + at) cap ps b → IsFullInStride stride p cap b
marked_bucket_full kind law t p cap at stride group ps ht fits e m b k = grind (arith, common_steps, index_full kind law t stride group ps at k.0 ht e m k.1)
