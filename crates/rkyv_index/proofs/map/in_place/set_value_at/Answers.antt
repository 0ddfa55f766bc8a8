use Rattle.std.proofs.Common.{subst}
use Rattle.rkyv_base.specs.{ScalarRepresents}
use Rattle.rkyv_base.specs.Lemmas.Scalar.{scalar_local}
use Rattle.rkyv_keys.specs.Lemmas.QueryLaws.{hash_local}
use Rattle.rkyv_index.proofs.ValueWrites.{index_kept, value_nested, value_written, written_value_represents}
use Rattle.rkyv_index.proofs.map.in_place.set_value_at.Goals as goal

pub returns-clause-kept : goal.returns-clause-kept
returns-clause-kept g c =
    index_kept _ g.met.W.Width.layout.kind _ _ g.K.HasSpec.laws g.N.HasSpec.laws _ _ c.requires.map _ _ c.requires.below
    (value_written c.value_pos_at-pos.ensures.at c.set_at.ensures.sealed c.set_at.ensures.is_valid) _ (hash_local g.H.KeyHasher.hasher g.met.K.KeyElement.key)

pub returns-clause-listed : goal.returns-clause-listed
returns-clause-listed g c = λ factor pairs pair st there.
    let e = g.N.Scalar.encoding in
    let at = c.value_pos_at-pos.ensures.at in
    written_value_represents _ g.met.W.Width.layout.kind _ _ g.K.HasSpec.laws g.N.HasSpec.laws _ _ c.requires.map _ _ c.requires.below
    (value_written at c.set_at.ensures.sealed c.set_at.ensures.is_valid) _ (hash_local g.H.KeyHasher.hasher g.met.K.KeyElement.key)
    _ _ g.met.K.Represents.local (scalar_local g.N.HasSpec.spec e g.met.N.Scalar.laws) factor pairs pair c.args.value st there (subst (λ q. ScalarRepresents e c.set_at.new.bytes q c.args.value) at c.set_at.ensures.reads)

pub returns-clause-parts : goal.returns-clause-parts
returns-clause-parts g c =
    value_nested _ g.met.W.Width.layout.kind _ _ g.K.HasSpec.laws g.N.HasSpec.laws _ _ c.requires.map _ _ c.requires.below
    (value_written c.value_pos_at-pos.ensures.at c.set_at.ensures.sealed c.set_at.ensures.is_valid)
