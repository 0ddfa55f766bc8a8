use Rattle.std.proofs.Common.{◌∙◌, ◌+◌, ◌≤◌, length}
use Rattle.rkyv_base.specs.{value_pos}
use Rattle.rkyv_collections.proofs.map.in_place.iter_seal.IterMut.next_with.Goals as goal

pub write_with-requires : goal.write_with-requires
write_with-requires g c = λ b bytes.
    let v = g.V.HasSpec.spec in
    let same = bytes ∙ c.next_pos-next.ensures.archive.bytes in
    let fits : value_pos g.K.HasSpec.spec v c.in-Some.pos + v.size ≤ length b.now = rw same c.in-Some.ensures.inside in
    c.requires b c.in-Some.pos same fits (λ w p is. let t = c.in-Some.ensures.takes w p is in (t.pair.key, t.pair.value))
