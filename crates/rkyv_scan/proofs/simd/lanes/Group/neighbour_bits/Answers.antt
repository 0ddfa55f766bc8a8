use Rattle.std.proofs.Common.{bit_xor, eqb, replicate}
use Rattle.std.specs.Simd.Lanes.{zip2}
use Rattle.rkyv_scan.proofs.Lanes.{flipped_bit, flipped_length, lanes_fit, right_splat}
use Rattle.rkyv_scan.proofs.simd.lanes.Group.neighbour_bits.Goals as goal

pub overflow_cast-result : goal.overflow_cast-result
overflow_cast-result c =
    let g = c.args.self in
    let flipped = zip2 bit_xor g.lanes (replicate 16 1) in
    let long = flipped_length g.lanes g.sixteen in
    record { fits = lanes_fit (λ x. eqb x c.args.byte) flipped _ long (right_splat eqb flipped c.args.byte long) }

pub returns : goal.returns
returns c = λ k l.
    let g = c.args.self in
    let flipped = zip2 bit_xor g.lanes (replicate 16 1) in
    flipped_bit g.lanes c.args.byte _ k g.sixteen l (right_splat eqb flipped c.args.byte (flipped_length g.lanes g.sixteen))
