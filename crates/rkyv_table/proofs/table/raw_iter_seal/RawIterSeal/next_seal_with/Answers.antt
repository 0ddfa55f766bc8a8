use Rattle.std.proofs.Common.{rules, ◌∙◌}
use Rattle.rkyv_base.specs.{LiesIn}
use Rattle.rkyv_table.proofs.SealedItems.{item_taken}
use Rattle.rkyv_table.proofs.table.raw_iter_seal.RawIterSeal.next_seal_with.Goals as goal

pub lend_seal-requires : goal.lend_seal-requires
lend_seal-requires g c = λ x bytes at.
    let lies : LiesIn g.T.HasSpec.spec x.now = search rules in
    c.requires x (bytes ∙ c.next_pos-next.ensures.archive.bytes) lies (item_taken c.in-Some.ensures.takes at)
