use Rattle.std.proofs.Common.{◌≡◌, ◌∙◌, ◌+◌, arith, subst}
use Rattle.rkyv_base.specs.{ModifiesOnly, StaysValid}
use Rattle.rkyv_collections.proofs.SealedPairs.{pairs_kept}
use Rattle.rkyv_collections.proofs.map.in_place.iter_seal.ValuesMut.set_at.Goals as goal

pub returns-clause-kept : goal.returns-clause-kept
returns-clause-kept g c = λ key at.
    let before = c.args.self.now.pairs.entries in
    let after = c.write_at.new.self in
    let zero : c.args.pos + 0 ≡ c.args.pos = omega arith in
    pairs_kept g.K.HasSpec.spec g.N.HasSpec.spec g.K.HasSpec.laws g.N.HasSpec.laws before after key c.write_at.ensures.stays
    (subst (λ n. ModifiesOnly before.archive.now n g.N.HasSpec.spec.size after.archive.now) (zero ∙ at) c.write_at.ensures.sealed)
    (subst (λ n. StaysValid g.N.HasSpec.spec before.archive.now after.archive.now n) (zero ∙ at) c.write_at.ensures.is_valid)
