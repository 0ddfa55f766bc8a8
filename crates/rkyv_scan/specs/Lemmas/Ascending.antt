-- The indices of every mask ascend.
use Rattle.std.proofs.lemmas.Grind.{common_steps}
use Rattle.std.proofs.Common.{ℕ, Bool, List, arith}
use Rattle.std.specs.List.{range_with_len}
use Rattle.std.specs.List.Sorted.{IsStrictlyIncreasing}
use Rattle.std.proofs.lemmas.List.FromFn.{get_or-range_with_len, length-range_with_len}
use Rattle.std.proofs.lemmas.List.Kept.{IsStrictlyIncreasing-filter}
use Rattle.rkyv_scan.specs.{flag_indices, indices_where, mask_indices}

range_ascends : (a n : ℕ) → IsStrictlyIncreasing (range_with_len a n)
range_ascends a n k h =
    let count = length-range_with_len a n in
    grind (arith, common_steps, get_or-range_with_len)

pub indices_ascend : (test : ℕ → Bool) (n : ℕ) → IsStrictlyIncreasing (indices_where test n)
unfolding indices_where
indices_ascend test n = IsStrictlyIncreasing-filter test (range_with_len 0 n) (range_ascends 0 n)

pub mask_ascends : (spacing offset count bits : ℕ)
    → IsStrictlyIncreasing (mask_indices spacing offset count bits)
unfolding mask_indices
mask_ascends spacing offset count bits = indices_ascend _ count

pub flags_ascend : (flags : List Bool) → IsStrictlyIncreasing (flag_indices flags)
unfolding flag_indices
flags_ascend flags = indices_ascend _ 8
