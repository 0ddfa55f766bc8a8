use Rattle.std.proofs.Common.{◌∙◌, ◌+◌, ◌≤◌, length, refl}
use Rattle.rkyv_table.proofs.SealedItems.{item_taken}
use Rattle.rkyv_table.proofs.table.raw_iter_seal.RawIterSeal.next_with.Goals as goal

pub write_with-requires : goal.write_with-requires
write_with-requires g c = λ b bytes.
    let same = bytes ∙ c.next_pos-next.ensures.archive.bytes in
    let fits : c.in-Some.pos + g.T.HasSpec.spec.size ≤ length b.now = rw same c.in-Some.ensures.inside in
    c.requires b c.in-Some.pos same fits (item_taken c.in-Some.ensures.takes refl)
