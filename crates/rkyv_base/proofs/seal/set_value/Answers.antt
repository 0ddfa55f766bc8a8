use Rattle.rkyv_base.proofs.Sealing.{entry_kept, viewable_kept}
use Rattle.rkyv_base.proofs.seal.set_value.Goals as goal

pub returns-clause-is_valid : goal.returns-clause-is_valid
returns-clause-is_valid g c =
    entry_kept g.K.HasSpec.spec g.N.HasSpec.spec g.K.HasSpec.laws g.N.HasSpec.laws
    c.args.archive.now _ c.args.entry_pos (rw c.value_offset.ensures.value at c.set_at.ensures.sealed) (rw c.value_offset.ensures.value at c.set_at.ensures.is_valid)

pub returns-clause-viewable : goal.returns-clause-viewable
returns-clause-viewable g c = viewable_kept _ c.args.archive.now _ c.args.entry_pos c.set_at.ensures.sealed.same_length (returns-clause-is_valid g c) c.requires
