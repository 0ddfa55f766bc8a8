-- The modulus is the least power of two that is at least the number of control bytes, and 16 times
-- a power of two.
use Rattle.std.proofs.lemmas.Grind.{common_steps}
use Rattle.std.proofs.Common.{◌≡◌, ℕ, zero, suc, ◌+◌, ◌*◌, ◌-◌, ◌^◌, ◌<◌, ◌≤◌, inl, inr, sym, ap, ◌∙◌, arith, zero-add, leb}
use Rattle.std.specs.List.{position_or_len, range_with_len}
use Rattle.std.specs.Int.{IsNextPowerOfTwo}
use Rattle.std.proofs.Math.Nat.{two-pow-succ}
use Rattle.std.proofs.Math.Pow.{pow_mono}
use Rattle.std.proofs.lemmas.Nat.{pow-add, pow_below}
use Rattle.std.proofs.lemmas.Bool.{cases_lt, le-leb, leb-true, lt-leb}
use Rattle.std.proofs.lemmas.List.FromFn.{get_or-range_with_len, length-range_with_len}
use Rattle.std.proofs.lemmas.List.Sums.{passes_at_first, position_or_len_is}
use Rattle.rkyv_table.specs.{control_count, modulus}

below_pow : (n : ℕ) → n < 2 ^ n
below_pow zero = omega arith
below_pow (suc n) = let ih = below_pow n in let e = two-pow-succ n in omega arith

-- the least exponent reaches `c`
reaches : (c : ℕ) → c ≤ 2 ^ position_or_len (λ k. leb c (2 ^ k)) (range_with_len 0 c)
reaches c =
    let p = λ (k : ℕ). leb c (2 ^ k) in
    let xs = range_with_len 0 c in
    let l = length-range_with_len 0 c in
    let e = position_or_len p xs in
    elim (cases_lt e c) [
      | inl a ↦ grind (arith, common_steps, passes_at_first p xs 0 (omega arith), get_or-range_with_len 0 c e 0 a, leb-true)
      | inr b ↦ let u = below_pow e in omega arith
    ]

-- the modulus is 16 times a power of two, and at least the number of control bytes
pub modulus_power : (cap : ℕ) → 0 < cap → (n : ℕ) × (modulus cap ≡ 16 * 2 ^ n) × (control_count cap ≤ modulus cap)
unfolding modulus
modulus_power cap pos =
    let c = control_count cap in
    let e = position_or_len (λ k. leb c (2 ^ k)) (range_with_len 0 c) in
    grind (arith, common_steps, reaches c, cases_lt e 4, pow-add 2 4 (e - 4), pow_below)

-- the result of `next_power_of_two`
pub modulus_is : (cap m : ℕ) → 0 < cap → IsNextPowerOfTwo (control_count cap) m → m ≡ modulus cap
unfolding modulus
modulus_is cap m pos h =
    let c = control_count cap in
    let k = h.0.0 in
    let e : m ≡ 2 ^ k = h.0.1 in
    let big : 31 ≤ c = omega arith in
    let half : 2 ^ k < c + c = omega arith in
    let below : (i : ℕ) → i < k → 2 ^ i < c = λ i l. (let u = pow_mono {i = suc i} {j = k} l in let d = two-pow-succ i in omega arith) in
    let kc : k ≤ c = elim (cases_lt c k) [ inl a ↦ (let u = below_pow c in let v = below c a in omega arith) | inr b ↦ b ] in
    let l = length-range_with_len 0 c in
    let p = λ (j : ℕ). leb c (2 ^ j) in
    let xs = range_with_len 0 c in
    let at = λ (i : ℕ) (a : i < c). get_or-range_with_len 0 c i 0 a in
    e ∙ ap (λ z. 2 ^ z) (sym (position_or_len_is p xs k 0 (omega arith)
    (λ i a. let b : i < c = omega arith in rw (at i b, zero-add) (lt-leb c (2 ^ i) (below i a)))
    (λ a. let b : k < c = omega arith in rw (at k b, zero-add) (le-leb c (2 ^ k) (omega arith)))))
