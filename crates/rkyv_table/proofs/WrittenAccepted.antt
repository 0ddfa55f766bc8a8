-- Written control bytes are valid: they have as many full buckets as items.
use Rattle.std.proofs.lemmas.Grind.{common_steps}
use Rattle.std.proofs.Common.{◌≡◌, ℕ, ◌^◌, ◌<◌, refl, sym, ◌∙◌, arith, List, false, ◌&&◌, eqb, ltb, length, get_or, get_or-take, length-take}
use Rattle.std.specs.List.{IsDistinct, list_any, range_with_len}
use Rattle.std.specs.Cmp.{nat_eq_equiv}
use Rattle.std.proofs.lemmas.Map.Keys.{IsDistinct-from_apart}
use Rattle.std.proofs.lemmas.Map.Made.{length-from_same_keys}
use Rattle.std.proofs.lemmas.List.{get_or_default}
use Rattle.std.proofs.lemmas.List.Folds.{Any-from_list_any, list_any_at}
use Rattle.std.proofs.lemmas.List.FromFn.{get_or-range_with_len, length-range_with_len}
use Rattle.std.proofs.lemmas.Bool.{and_from, and_parts, both_ways, eq-eqb, eqb-true, false_from_ne_true, leb-false, lt-ltb, ltb-true, ne_eqb, not-false, not-true}
use Rattle.rkyv_table.specs.{AreHomes, AreValidControls, AreWrittenControls, is_free, walk}
use Rattle.rkyv_table.proofs.Coverage.{same_tests}
use Rattle.rkyv_table.proofs.Lists.{any_filter, any_range, distinct_filter, in_range, some_find}
use Rattle.rkyv_table.proofs.WrittenStep.{free_empty, home_below}

-- no two items have one home bucket
pub homes_apart : (cap : ℕ) (hashes homes : List ℕ) → AreHomes cap hashes homes → (i j : ℕ) → i < j → j < length homes → get_or homes i 0 ≡ get_or homes j 0 → ⊥
homes_apart cap hashes homes p i j ij hj e =
    let count = p.count in
    grind (arith, some_find, not-true, length-take, get_or-take, list_any_at, eq-eqb, both_ways)

pub distinct_homes : (cap : ℕ) (hashes homes : List ℕ) → AreHomes cap hashes homes → IsDistinct eqb homes
distinct_homes cap hashes homes p = IsDistinct-from_apart eqb homes (λ i j d ij hj.
    let a = get_or_default homes i d 0 (omega arith) in
    let b = get_or_default homes j d 0 hj in
    rw (a, b) (ne_eqb (get_or homes i 0) (get_or homes j 0) (λ e. homes_apart cap hashes homes p i j ij hj e)))

pub distinct_range : (n : ℕ) → IsDistinct eqb (range_with_len 0 n)
distinct_range n = let l = length-range_with_len 0 n in
    IsDistinct-from_apart eqb (range_with_len 0 n) (λ i j d ij hj. grind (arith, common_steps, get_or-range_with_len, ne_eqb))

-- a bucket is full if and only if it is a home bucket
pub full_home : (cap : ℕ) (hashes homes controls : List ℕ) (q : ℕ) → 0 < cap → AreWrittenControls cap hashes homes controls → ((j : ℕ) → j < length hashes → get_or hashes j 0 < 2 ^ 64)
    → list_any (eqb q) (walk controls cap) ≡ list_any (eqb q) homes
unfolding walk
full_home cap hashes homes controls q pos w fits =
    let F = λ (b : ℕ). ltb (get_or controls b 0) 128 in
    let count = w.placed.count in
    any_filter q F (range_with_len 0 cap)
    ∙ same_tests (list_any (eqb q) (range_with_len 0 cap) && F q) (list_any (eqb q) homes)
    (λ t. grind (arith, common_steps, and_parts, in_range, ltb-true, not-false, false_from_ne_true))
    (λ m.
    let a = Any-from_list_any (eqb q) homes m in
    let e = eqb-true q a.1 a.4 in
    let d = get_or_default homes a.0 a.1 0 a.2 in
    let same : get_or homes a.0 0 ≡ q = sym d ∙ a.3 ∙ sym e in
    let l = home_below cap hashes homes controls a.0 pos w (omega (arith, a.2)) in
    let lq : q < cap = omega arith in
    let n = free_empty cap hashes homes controls q w fits lq in
    let free : is_free homes q ≡ false = rw m refl in
    let g = leb-false 128 (get_or controls q 0) (sym n ∙ free) in
    and_from (list_any (eqb q) (range_with_len 0 cap)) (F q) (any_range (eqb q) 0 cap q (omega arith) (omega arith) (eq-eqb q q refl)) (lt-ltb (get_or controls q 0) 128 (omega arith)))

pub accepted_written : (cap : ℕ) (hashes homes controls : List ℕ) → length hashes < cap → AreWrittenControls cap hashes homes controls → ((j : ℕ) → j < length hashes → get_or hashes j 0 < 2 ^ 64) → AreValidControls cap (length hashes) controls
unfolding walk
accepted_written cap hashes homes controls room w fits =
    let F = λ (b : ℕ). ltb (get_or controls b 0) 128 in
    let d = distinct_filter F (range_with_len 0 cap) (distinct_range cap) in
    record {
      room = room;
      full = length-from_same_keys nat_eq_equiv (walk controls cap) homes d (distinct_homes cap hashes homes w.placed) (λ q. full_home cap hashes homes controls q (omega arith) w fits) ∙ w.placed.count;
      wrapped = w.wrapped;
    }
