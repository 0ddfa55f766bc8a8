use Rattle.std.proofs.Common.{eqb}
use Rattle.rkyv_scan.proofs.Lanes.{lane_bit, lanes_fit, right_splat}
use Rattle.rkyv_scan.proofs.simd.lanes.Group.equal_bits.Goals as goal

pub overflow_cast-result : goal.overflow_cast-result
overflow_cast-result c =
    let g = c.args.self in
    record { fits = lanes_fit (λ x. eqb x c.args.byte) g.lanes _ g.sixteen (right_splat eqb g.lanes c.args.byte g.sixteen) }

pub returns : goal.returns
returns c = λ k l.
    let g = c.args.self in
    lane_bit (λ x. eqb x c.args.byte) g.lanes _ k g.sixteen l (right_splat eqb g.lanes c.args.byte g.sixteen)
