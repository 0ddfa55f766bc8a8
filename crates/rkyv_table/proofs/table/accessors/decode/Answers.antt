use Rattle.std.proofs.Common.{arith}
use Rattle.rkyv_table.specs.{controls_pos}
use Rattle.rkyv_table.proofs.ValidTable.{controls_inside}
use Rattle.rkyv_table.proofs.table.accessors.decode.Goals as goal

pub controls_pos-controls_pos-requires : goal.controls_pos-controls_pos-requires
controls_pos-controls_pos-requires g c =
    let t = c.args.view in
    let h = rw (c.bytes.ensures, c.pos-pos.ensures) at c.read_header-header.ensures in
    let u = controls_inside g.W.Word.word g.T.HasSpec.spec g.T.HasSpec.laws t.archive.now t.pos c.requires (omega (arith, c.if-cap-eq0.false, h.cap)) in
    (controls_pos g.W.Word.word t.archive.now t.pos, rw (c.pos-pos.ensures, h.distance) u.1, omega (arith, u.0))
