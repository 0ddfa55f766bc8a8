use Rattle.std.proofs.Common.{◌∙◌, ◌+◌, ◌≤◌, length, subst, sym}
use Rattle.rkyv_base.specs.{Viewable}
use Rattle.rkyv_collections.proofs.map.in_place.iter_seal.ValuesMut.next_with.Goals as goal

pub write_with-requires : goal.write_with-requires
write_with-requires g c = λ b bytes.
    let v = g.V.HasSpec.spec in
    let same = bytes ∙ c.next_pos-next.ensures.archive.bytes in
    let fits : c.in-Some.pos + v.size ≤ length b.now = rw same c.in-Some.ensures.inside in
    c.requires b c.in-Some.pos same fits (λ w p is.
    let t = c.in-Some.ensures.takes w p is in
    subst (λ n. Viewable v c.args.self.now.pairs.entries.archive.now n) (sym t.1) t.2.pair.value)
