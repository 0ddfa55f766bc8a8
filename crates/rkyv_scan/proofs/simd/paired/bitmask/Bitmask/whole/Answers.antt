use Rattle.std.proofs.Common.{◌∙◌, ap, bit_and, sym}
use Rattle.rkyv_scan.specs.{bits_after, chain, group_lanes, mask_bits, mask_indices}
use Rattle.rkyv_scan.proofs.Paired.{chain_equal, chain_is, whole_marks}
use Rattle.rkyv_scan.proofs.simd.paired.bitmask.Bitmask.whole.Goals as goal

pub returns-then-after-next-eq0 : goal.returns-then-after-next-eq0
returns-then-after-next-eq0 c =
    let m = c.args.self in
    let next = c.neighbour_bits-next.result in
    let after = ap bits_after (sym c.bits-equal.ensures) ∙ sym c.after.ensures in
    whole_marks m (mask_bits m.known) c.if-self.false
    (chain_equal (group_lanes m.both) m.byte (mask_bits m.known) next (m.equal c.if-self.false) c.neighbour_bits-next.ensures
    (ap (λ x. bit_and x next) after ∙ c.if-after-next-eq0.true))

pub returns : goal.returns
returns c =
    let m = c.args.self in
    let next = c.neighbour_bits-next.result in
    ap (mask_indices 1 0 16) (c.of_bits.ensures ∙ c.chained.ensures ∙ ap (λ x. chain x next 7) c.bits-equal.ensures)
    ∙ whole_marks m (chain (mask_bits m.known) next 7) c.if-self.false
    (chain_is (group_lanes m.both) m.byte (mask_bits m.known) next (m.equal c.if-self.false) c.neighbour_bits-next.ensures 7)
