use Rattle.std.proofs.Common.{◌+◌, subst}
use Rattle.rkyv_base.specs.{ModifiesOnly, StaysValid}
use Rattle.rkyv_collections.proofs.SealedPairs.{pairs_kept}
use Rattle.rkyv_collections.proofs.map.in_place.iter_seal.IterMut.set_at.Goals as goal

pub returns-clause-kept : goal.returns-clause-kept
returns-clause-kept g c =
    let before = c.args.self.now.entries in
    let after = c.write_at.new.self in
    let same = c.value_offset.ensures.value in
    pairs_kept g.K.HasSpec.spec g.N.HasSpec.spec g.K.HasSpec.laws g.N.HasSpec.laws before after c.args.pos c.write_at.ensures.stays
    (subst (λ n. ModifiesOnly before.archive.now (c.args.pos + n) g.N.HasSpec.spec.size after.archive.now) same c.write_at.ensures.sealed)
    (subst (λ n. StaysValid g.N.HasSpec.spec before.archive.now after.archive.now (c.args.pos + n)) same c.write_at.ensures.is_valid)
