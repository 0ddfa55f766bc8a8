use Rattle.std.proofs.Common.{false, refl, subst, true}
use Rattle.rkyv_base.specs.{ScalarRepresents}
use Rattle.rkyv_base.specs.Lemmas.Scalar.{scalar_local}
use Rattle.rkyv_keys.specs.Lemmas.QueryLaws.{hash_local}
use Rattle.rkyv_keys.specs.{hash_at}
use Rattle.rkyv_collections.specs.{SetsFound}
use Rattle.rkyv_collections.proofs.FirstWrites.{first_behind, none_behind}
use Rattle.rkyv_collections.proofs.NestedWrites.{value_nested_at}
use Rattle.rkyv_collections.proofs.SealedMap.{satisfies_implied}
use Rattle.rkyv_collections.proofs.ValueWrites.{map_kept_at}
use Rattle.rkyv_collections.proofs.map.in_place.set_value_of.Goals as goal

pub returns-in-Some-clause-sets : goal.returns-in-Some-clause-sets
returns-in-Some-clause-sets g c =
    let e = g.N.Scalar.encoding in
    let key_hash = hash_at g.H.KeyHasher.hasher g.K.KeyElement.key_calls in
    let t = c.in-Some.ensures.walked in
    let kept = map_kept_at g.K.HasSpec.spec g.N.HasSpec.spec g.K.HasSpec.laws g.N.HasSpec.laws g.W.Word.word key_hash
    (hash_local g.H.KeyHasher.hasher g.met.K.KeyElement.key)
    c.args.archive.now c.set_at.new.bytes c.args.root t.0 c.in-Some.pos c.requires.map t.1 t.2 c.set_at.ensures.sealed c.set_at.ensures.is_valid in
    satisfies_implied _ _ _ _ (λ key_pos at. subst (SetsFound g.W.Word.word g.K.HasSpec.spec g.N.HasSpec.spec e key_hash c.args.archive.now c.args.root c.args.value true c.set_at.new.bytes) at (refl, c.set_at.ensures.written, kept)) c.in-Some.ensures.finds

pub returns-in-Some-clause-listed : goal.returns-in-Some-clause-listed
returns-in-Some-clause-listed g c = λ factor pairs st.
    let e = g.N.Scalar.encoding in
    let h = g.H.KeyHasher in
    let k = g.K.HasSpec.spec in
    let b = c.args.archive.now in
    let fits = g.A.Query.fits c.args.key.now b in
    let set = c.set_at.ensures in
    first_behind g.W.Word.word k g.N.HasSpec.spec g.K.HasSpec.laws g.N.HasSpec.laws g.K.Represents.represents (ScalarRepresents e)
    (hash_at h.hasher g.K.KeyElement.key_calls) factor b c.args.root pairs (λ before. c.args.value) fits (g.A.PartialEq.eq c.args.key.now) c.requires.map
    (λ a q s there. g.met.A.NativeKey.native c.args.key.now a b q s there) st g.met.K.Represents.local (scalar_local g.N.HasSpec.spec e g.met.N.Scalar.laws)
    (hash_local h.hasher g.met.K.KeyElement.key)
    c.set_at.new.bytes c.in-Some.pos (c.in-Some.ensures.finds.first st.homes st.written) set.sealed set.is_valid (λ before at. set.reads)

pub returns-in-None-clause-sets : goal.returns-in-None-clause-sets
returns-in-None-clause-sets g c =
    let h = g.H.KeyHasher in
    let b = c.args.archive.now in
    satisfies_implied _ _ _ _ (λ key_pos at. subst (SetsFound g.W.Word.word g.K.HasSpec.spec g.N.HasSpec.spec g.N.Scalar.encoding (hash_at h.hasher g.K.KeyElement.key_calls) b c.args.root c.args.value false b)
    at (refl, refl)) c.in-None.ensures.finds

pub returns-in-None-clause-listed : goal.returns-in-None-clause-listed
returns-in-None-clause-listed g c = λ factor pairs st.
    let e = g.N.Scalar.encoding in
    let h = g.H.KeyHasher in
    let b = c.args.archive.now in
    none_behind g.W.Word.word g.K.HasSpec.spec g.N.HasSpec.spec g.K.HasSpec.laws g.N.HasSpec.laws g.K.Represents.represents (ScalarRepresents e)
    (hash_at h.hasher g.K.KeyElement.key_calls) factor b c.args.root pairs (λ before. c.args.value) (g.A.Query.fits c.args.key.now b) (g.A.PartialEq.eq c.args.key.now) c.requires.map
    (λ a q s there. g.met.A.NativeKey.native c.args.key.now a b q s there) st (c.in-None.ensures.finds.first st.homes st.written)

pub returns-in-Some-clause-parts : goal.returns-in-Some-clause-parts
returns-in-Some-clause-parts g c =
    let t = c.in-Some.ensures.walked in
    value_nested_at g.W.Word.word g.K.HasSpec.spec g.N.HasSpec.spec g.K.HasSpec.laws g.N.HasSpec.laws
    c.args.archive.now c.set_at.new.bytes c.args.root t.0 c.in-Some.pos c.requires.map t.1 t.2 c.set_at.ensures.sealed c.set_at.ensures.is_valid
