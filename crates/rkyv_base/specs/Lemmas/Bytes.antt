-- Lemmas: numbers and lists of bytes at a position of an archive.
use Rattle.std.specs.Prelude.{◌≡◌, ℕ, ◌+◌, ◌-◌, ◌≤◌, List, ◌++◌, length, drop, slice_range}
use Rattle.std.proofs.Common.{arith, length-append}
use Rattle.std.proofs.lemmas.Grind.{common_steps}
use Rattle.std.proofs.lemmas.List.{drop-drop, drop-take, take-take, take_all}
use Rattle.std.proofs.Math.Seq.{drop-append_seam, take-append_seam}
use Rattle.rkyv_base.specs.Bytes.{AgreeOn, OccursAt}

-- a part of a range, cut out of the range
pub slice_of_slice : (b : List ℕ) (i j i' j' : ℕ) → i ≤ i' → j' ≤ j → i' ≤ j'
    → slice_range (slice_range b i j) (i' - i) (j' - i) ≡ slice_range b i' j'
slice_of_slice b i j i' j' hi hj hij =
    grind (
      arith,
      common_steps,
      drop-take (i' - i) (j - i') (drop i b),
      drop-drop (i' - i) i b,
      take-take,
    )

-- two lists that agree in a range agree in each part of it
pub agree_on_part : (b c : List ℕ) (i j i' j' : ℕ) → i ≤ i' → j' ≤ j → i' ≤ j' → AgreeOn b c i j
    → AgreeOn b c i' j'
agree_on_part b c i j i' j' hi hj hij s =
    grind (
      arith,
      common_steps,
      slice_of_slice b i j i' j' hi hj hij,
      slice_of_slice c i j i' j' hi hj hij,
    )

-- a front and a back of bytes in an archive
pub occurs_front : (c : List ℕ) (p : ℕ) (x y : List ℕ) → OccursAt c p (x ++ y) → OccursAt c p x
occurs_front c p x y s =
    let n : length (x ++ y) ≡ length x + length y = length-append x y in
    grind (
      arith,
      common_steps,
      slice_of_slice c p (p + length (x ++ y)) p (p + length x) (omega arith) (omega arith)
          (omega arith),
      take-append_seam x y,
    )

pub occurs_back : (c : List ℕ) (p : ℕ) (x y : List ℕ) → OccursAt c p (x ++ y)
    → OccursAt c (p + length x) y
occurs_back c p x y s =
    let n : length (x ++ y) ≡ length x + length y = length-append x y in
    grind (
      arith,
      common_steps,
      slice_of_slice c p (p + length (x ++ y)) (p + length x) (p + length x + length y)
          (omega arith) (omega arith) (omega arith),
      drop-append_seam x y,
      take_all (length y) y (omega arith),
    )

-- a middle part of bytes in an archive
pub occurs_third : (c : List ℕ) (p : ℕ) (x y z w : List ℕ) → OccursAt c p ((x ++ y) ++ (z ++ w))
    → OccursAt c (p + length (x ++ y)) z
occurs_third c p x y z w s = grind (arith, common_steps, occurs_front, occurs_back)
