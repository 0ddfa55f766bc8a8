use Rattle.std.proofs.Common.{refl}
use Rattle.rkyv_base.specs.{ScalarRepresents}
use Rattle.rkyv_keys.specs.{hash_at}
use Rattle.rkyv_index.specs.{IndexRepresents}
use Rattle.rkyv_index.proofs.FirstWrites.{none_listed, some_listed}
use Rattle.rkyv_index.proofs.FoundValues.{found_at}
use Rattle.rkyv_index.proofs.map.in_place.set_value_of.Goals as goal

pub returns-in-Some-clause-sets : goal.returns-in-Some-clause-sets
returns-in-Some-clause-sets g c = found_at (refl, c.set_value_at.ensures.written, c.set_value_at.ensures.kept) c.in-Some.ensures.finds

pub returns-in-Some-clause-listed : goal.returns-in-Some-clause-listed
returns-in-Some-clause-listed g c = λ factor pairs st.
    let w = g.W.Word.word in
    let k = g.K.HasSpec.spec in
    let v = g.N.HasSpec.spec in
    let key = g.K.Represents.represents in
    let value = ScalarRepresents g.N.Scalar.encoding in
    let key_hash = hash_at g.H.KeyHasher.hasher g.K.KeyElement.key_calls in
    some_listed w g.met.W.Width.layout.kind k v g.K.HasSpec.laws g.N.HasSpec.laws c.args.archive.now c.args.root c.requires.map key value key_hash factor pairs
    (g.A.Query.fits c.args.key.now) (g.A.PartialEq.eq c.args.key.now) (λ a q s there. g.met.A.NativeKey.native c.args.key.now a c.args.archive.now q s there) st (λ before. c.args.value)
    c.in-Some.index (c.in-Some.ensures.finds.first st.homes st.written) (λ l. IndexRepresents w k v key value key_hash factor c.set_value_at.new.archive c.args.root l)
    (λ pair at. c.set_value_at.ensures.listed factor pairs pair st at)

pub returns-in-None-clause-sets : goal.returns-in-None-clause-sets
returns-in-None-clause-sets g c = found_at (refl, refl) c.in-None.ensures.finds

pub returns-in-None-clause-listed : goal.returns-in-None-clause-listed
returns-in-None-clause-listed g c = λ factor pairs st.
    none_listed g.W.Word.word g.met.W.Width.layout.kind g.K.HasSpec.spec g.N.HasSpec.spec g.K.HasSpec.laws g.N.HasSpec.laws c.args.archive.now c.args.root c.requires.map g.K.Represents.represents
    (ScalarRepresents g.N.Scalar.encoding) (hash_at g.H.KeyHasher.hasher g.K.KeyElement.key_calls) factor pairs (g.A.Query.fits c.args.key.now) (g.A.PartialEq.eq c.args.key.now)
    (λ a q s there. g.met.A.NativeKey.native c.args.key.now a c.args.archive.now q s there) st (λ before. c.args.value) (c.in-None.ensures.finds.first st.homes st.written)
