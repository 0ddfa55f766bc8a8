use Rattle.std.proofs.Common.{sym}
use Rattle.rkyv_scan.specs.{mask_bits, mask_indices, paired_indices}
use Rattle.rkyv_scan.proofs.Paired.{both_some, known_first}
use Rattle.rkyv_scan.proofs.simd.paired.BitmaskMarks.any_bit_set.Goals as goal

pub returns : goal.returns
returns c =
    let m = c.args.self in
    let known = mask_indices 1 0 16 (mask_bits m.known) in
    let first = known_first m in
    (λ set. both_some known (paired_indices m) (sym first) (c.any_bit_set.ensures.0 set), λ some. c.any_bit_set.ensures.1 (both_some (paired_indices m) known first some))
