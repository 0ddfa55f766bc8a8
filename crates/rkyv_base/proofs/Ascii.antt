-- Bytes that are ASCII, by the first byte of 128 or more.
use Rattle.std.proofs.Common.{◌≡◌, ℕ, ◌<◌, ◌≤◌, true, false, eqb, leb, List, length, get_or, take, Some, None, arith}
use Rattle.std.proofs.lemmas.Grind.{common_steps}
use Rattle.std.specs.List.{position, position_or_len}
use Rattle.std.specs.Str.{IsAscii}
use Rattle.std.proofs.lemmas.Bool.{cases_lt}
use Rattle.std.proofs.lemmas.Bool.Decides.{nat_tests}
use Rattle.std.proofs.lemmas.List.{get_or-take, get_or_past}
use Rattle.std.proofs.lemmas.List.Sums.{prefix_len_passes}
use Rattle.std.proofs.lemmas.List.Quantifiers.{position-Some}
use Rattle.rkyv_base.specs.{inline_text}
use Rattle.rkyv_base.proofs.FirstMark.{NoneBelow, none_below}

low : (x : ℕ) → leb 128 x ≡ false → x < 128
low x e = grind (arith, nat_tests)

pub none_high : (xs : List ℕ) → NoneBelow (λ x. leb 128 x) xs (length xs) → IsAscii xs
none_high xs none i = grind (arith, common_steps, cases_lt, low, get_or_past)

inside_take : (xs : List ℕ) (m i : ℕ) → i < length (take m xs) → (i < m) × (i < length xs)
inside_take xs m i l = grind (arith, common_steps)

none_high_before : (xs : List ℕ) (m : ℕ) → ((k : ℕ) → k < m → k < length xs → leb 128 (get_or xs k 0) ≡ false) → IsAscii (take m xs)
none_high_before xs m none = grind (arith, common_steps, none_high, inside_take, get_or-take)

first_ff_at_most : (xs : List ℕ) (at : ℕ) → eqb (get_or xs at 0) 255 ≡ true → position_or_len (λ x. eqb x 255) xs ≤ at
first_ff_at_most xs at ff = grind (arith, common_steps, cases_lt, prefix_len_passes)

-- the first byte of 128 or more is ff
pub ends_in_ff : (xs : List ℕ) (at : ℕ) → Some at ≡ position (λ x. leb 128 x) xs → eqb (get_or xs at 0) 255 ≡ true → IsAscii (inline_text xs)
ends_in_ff xs at e ff = grind (arith, common_steps, position-Some, none_high_before, first_ff_at_most)

-- no byte is 128 or more
pub ends_nowhere : (xs : List ℕ) → None ≡ position (λ x. leb 128 x) xs → IsAscii (inline_text xs)
ends_nowhere xs e = none_high_before xs (position_or_len (λ x. eqb x 255) xs) (λ k l within. none_below (λ x. leb 128 x) xs e k within)
