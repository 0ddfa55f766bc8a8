-- A quotient by the reciprocal of a divisor.
use Rattle.std.proofs.Common.{◌≡◌, ℕ, ◌+◌, ◌*◌, ◌-◌, ◌/◌, ◌%◌, ◌^◌, ◌<◌, ◌≤◌, inl, inr, arith}
use Rattle.std.proofs.lemmas.Grind.{common_steps}
use Rattle.std.proofs.Math.Nat.{mul-le-mul_left, mul-le-mul_right}
use Rattle.std.proofs.lemmas.Bool.{cases_lt}

-- the quotient of 2^64 - 1 by a divisor
inverse_goes : (d i : ℕ) → 0 < d → i ≡ (2 ^ 64 - 1) / d → (i * d < 2 ^ 64) × (2 ^ 64 ≤ i * d + d)
inverse_goes d i some is = grind (arith, common_steps)

-- `q`: quotient of `n * i` by 2^64. It is the quotient of `n` by `d`, or one less
module _ (d i n q : ℕ) (some : 0 < d) (is : i ≡ (2 ^ 64 - 1) / d) (low : q * 2 ^ 64 ≤ n * i) (high : n * i < q * 2 ^ 64 + 2 ^ 64) (small : n < 2 ^ 64) where
  pub quotient_below : q * d ≤ n
  quotient_below =
      let goes = inverse_goes d i some is in
      elim (cases_lt n (q * d)) [
        | inl over ↦
            let b : q * 2 ^ 64 * d ≤ n * i * d = mul-le-mul_right d low in
            let c : n * (i * d) ≤ n * 2 ^ 64 = mul-le-mul_left n (omega (arith, goes.0)) in
            absurd (omega arith)
        | inr le ↦ le
      ]

  pub rest_below : n < q * d + 2 * d
  rest_below =
      let goes = inverse_goes d i some is in
      elim (cases_lt n (q * d + 2 * d)) [
        | inl lt ↦ lt
        | inr over ↦
            let b : (n * i + 1) * d ≤ (q * 2 ^ 64 + 2 ^ 64) * d = mul-le-mul_right d (omega arith) in
            let c : n * 2 ^ 64 ≤ n * (i * d + d) = mul-le-mul_left n goes.1 in
            let e : n * d ≤ 2 ^ 64 * d = mul-le-mul_right d (omega arith) in
            absurd (omega arith)
      ]

-- the remainder, by the right quotient and by one less
pub rest_is : (n d q : ℕ) → q * d ≤ n → n - q * d < d → n - q * d ≡ n % d
rest_is n d q le lt = grind (arith, common_steps)

pub rest_less : (n d q : ℕ) → q * d ≤ n → d ≤ n - q * d → n < q * d + 2 * d → n - q * d - d ≡ n % d
rest_less n d q le more lt = grind (arith, common_steps)
