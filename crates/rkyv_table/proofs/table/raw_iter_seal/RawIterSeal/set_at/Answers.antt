use Rattle.std.proofs.Common.{refl}
use Rattle.rkyv_table.proofs.SealedItems.{cursor_kept}
use Rattle.rkyv_table.proofs.table.raw_iter_seal.RawIterSeal.set_at.Goals as goal

pub returns-clause-kept : goal.returns-clause-kept
returns-clause-kept g c = λ w p i is item.
    cursor_kept w g.N.HasSpec.spec p i c.args.pos c.args.self.now _ is item
    (record { reference = refl; buckets_end = refl; cap = refl; next = refl; left = refl }) c.set_at.ensures.sealed c.set_at.ensures.is_valid
