-- The two sums of Adler-32 over the bytes that were read.
use Rattle.std.proofs.Common.{◌≡◌, ℕ, ◌+◌, ◌-◌, ◌*◌, ◌%◌, ◌<◌, ◌≤◌, List, [], ◌∷◌, ◌++◌, length, take, drop, get_or, sum, refl, arith, length-drop}
use Rattle.std.specs.Prelude.{slice_range}
use Rattle.std.proofs.lemmas.List.{get_or_at, length-take-le, take_all, take_more}
use Rattle.std.proofs.lemmas.List.Sums.{sum_by-append, sum_by-cons, sum_by_more}
use Rattle.std.proofs.lemmas.Nat.{mul-mod_second}
use Rattle.rkyv_container.specs.{DetectsChange, adler32_high, adler32_low, adler32_of, weighted_sum}
use Rattle.rkyv_container.proofs.HeaderBytes.{slice_join}
use Rattle.std.proofs.Common.{arith}
use Rattle.std.proofs.lemmas.Grind.{common_steps}

-- `low` and `high`: the sums after the first `i` bytes of `b`, from `l` and `h` on
pub record AreBlockSums (l h : ℕ) (b : List ℕ) (i low high : ℕ) : Type 0 where
  pub low_is : low ≡ l + sum (take i b)
  pub high_is : high ≡ h + i * l + weighted_sum (take i b)
  pub low_bound : low ≤ 65520 + 255 * i
  pub high_bound : high ≤ 65520 + 1110000 * i

-- `low` and `high`: the reduced sums after the first `i` bytes of `b`
pub record AreSumsOf (b : List ℕ) (i low high : ℕ) : Type 0 where
  pub inside : i ≤ length b
  pub low_is : low ≡ (1 + sum (take i b)) % 65521
  pub high_is : high ≡ (i + weighted_sum (take i b)) % 65521

add_mul : (a b c : ℕ) → (a + b) * c ≡ a * c + b * c
add_mul a b c = grind arith

mul_add : (a b c : ℕ) → a * (b + c) ≡ a * b + a * c
mul_add a b c = grind arith

-- the weighted sum of two lists, one after the other
weighted_sum-append : (xs ys : List ℕ) → weighted_sum (xs ++ ys)
    ≡ weighted_sum xs + length ys * sum xs + weighted_sum ys
weighted_sum-append [] ys = omega arith
weighted_sum-append (x ∷ xs) ys = grind (arith, common_steps, sum_by-cons, add_mul, mul_add, weighted_sum-append xs ys)

-- the sums after one more byte
sum_more : (b : List ℕ) (i : ℕ) → i < length b
    → sum (take (i + 1) b) ≡ sum (take i b) + get_or b i 0
sum_more b i k = sum_by_more (λ y. y) b i 0 k

weighted_sum_more : (b : List ℕ) (i : ℕ) → i < length b
    → weighted_sum (take (i + 1) b) ≡ weighted_sum (take i b) + sum (take i b) + get_or b i 0
weighted_sum_more b i k = grind (arith, common_steps, weighted_sum-append, take_more)

pub sums_more : (l h : ℕ) (b : List ℕ) (i low high x : ℕ) → length b ≤ 4096 → i < length b
    → x ≡ get_or b i 0 → x < 256 → AreBlockSums l h b i low high
    → AreBlockSums l h b (i + 1) (low + x) (high + (low + x))
sums_more l h b i low high x n k e small s = grind (arith, common_steps, sum_more, weighted_sum_more, add_mul)

-- equal remainders stay equal after an addition
add_mod : (x y z : ℕ) → x % 65521 ≡ y % 65521 → (x + z) % 65521 ≡ (y + z) % 65521
add_mod x y z e = omega arith

take_part : (b : List ℕ) (i j : ℕ) → i ≤ j → take j b ≡ take i b ++ slice_range b i j
take_part b i j k = grind (arith, common_steps, slice_join b 0 i j (omega arith) k)

reduced : (a x : ℕ) → a ≡ x % 65521 → a % 65521 ≡ x % 65521
reduced a x e = omega arith

-- the sums after a block
pub block_sums : (b : List ℕ) (i j low high low' high' : ℕ) → i ≤ j → j ≤ length b
    → AreSumsOf b i low high → low' ≡ (low + sum (slice_range b i j)) % 65521
    → high' ≡ (high + length (slice_range b i j) * low + weighted_sum (slice_range b i j)) % 65521
    → AreSumsOf b j low' high'
block_sums b i j low high low' high' ij jn s e f =
    let front = take i b in
    let block = slice_range b i j in
    let n = length block in
    grind (
      arith,
      common_steps,
      take_part b i j ij,
      length-take-le (j - i) (drop i b) (omega (arith, length-drop i b)),
      length-drop i b,
      weighted_sum-append front block,
      add_mod low (1 + sum front) (sum block) (reduced low (1 + sum front) s.low_is),
      add_mod high (i + weighted_sum front) (n * low + weighted_sum block) (reduced high (i + weighted_sum front) s.high_is),
      reduced low (1 + sum front) s.low_is,
      reduced high (i + weighted_sum front) s.high_is,
      mul-mod_second n (1 + sum front) 65521,
      mul_add n 1 (sum front),
      sum_by-append,
    )

-- the checksum from the sums of all bytes
pub all_sums : (b : List ℕ) (i low high : ℕ) → length b ≤ i → AreSumsOf b i low high
    → high * 65536 + low ≡ adler32_of b
all_sums b i low high n s = grind (arith, common_steps, take_all, adler32_low, adler32_high)

-- the low half of a checksum
low_of : (h l : ℕ) (k m : ℕ) → l < 65536 → m < 65536 → h * 65536 + l ≡ k * 65536 + m → l ≡ m
low_of h l k m p q e = omega arith

low_below : (b : List ℕ) → adler32_low b < 65536
low_below b = omega arith

-- the low half after a change of one byte
low_changes : (n x y : ℕ) → x < 256 → y < 256 → (n + x) % 65521 ≡ (n + y) % 65521 → y ≡ x
low_changes n x y p q e = omega arith

sum_with : (front back : List ℕ) (x : ℕ)
    → 1 + sum (front ++ x ∷ back) ≡ (1 + sum front + sum back) + x
sum_with front back x = grind (arith, common_steps, sum_by-append, sum_by-cons)

-- a change of one byte changes the checksum
pub detects_change : (b : List ℕ) → ((i : ℕ) → get_or b i 0 < 256)
    → DetectsChange b (adler32_of b)
detects_change b small front back x y e q n c = grind (arith, common_steps, get_or_at front x back 0 (length front) refl, low_below b, sum_with front back x, sum_with front back y, low_of, low_changes)
