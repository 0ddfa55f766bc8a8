use Rattle.std.proofs.Common.{◌≡◌, ℕ, ◌∙◌, None, Option, Some, ap, refl, subst, sym}
use Rattle.std.specs.Option.{option_map}
use Rattle.std.proofs.lemmas.Option.{none-some, same_Some}
use Rattle.rkyv_scan.specs.{hash_of_calls}
use Rattle.rkyv_base.specs.{ScalarRepresents, Viewable, value_pos}
use Rattle.rkyv_keys.specs.Lemmas.QueryLaws.{rests_on_keys}
use Rattle.rkyv_collections.proofs.SealedMap.{pair_pos}
use Rattle.rkyv_table.proofs.NestedEntries.{rests_on_key}
use Rattle.rkyv_collections.proofs.ValueWrites.{rests_on_parts}
use Rattle.test_collections.proofs.tests.sealed.stored.Goals as goal

-- if `option_map f o` is `Some x`, then `o` is not `None`
given : {V : Type 0} (f : ℕ → ℕ) (o : Option ℕ) (x : ℕ) (y : V) → Some x ≡ option_map f o → option_map (λ _. y) o ≡ Some y
given f None x y e = absurd (none-some x (sym e))
given f (Some z) x y e = refl

pub value_found-requires-2 : goal.value_found-requires-2
value_found-requires-2 g c = c.write_value.ensures.kept.1.valid

pub new-requires : goal.new-requires
new-requires g c =
    let v = g.N.HasSpec.spec in
    let t = c.in-Some-value_found.ensures.walked in
    let at = pair_pos g.W.Word.word g.K.HasSpec.spec v g.K.HasSpec.laws g.N.HasSpec.laws c.write_value.new.bytes c.args.root c.write_value.ensures.kept.1.valid t.0 t.1 in
    subst (Viewable v c.write_value.new.bytes) (sym t.2) at.value

pub to_native-requires : goal.to_native-requires
to_native-requires g c =
    let v = g.N.HasSpec.spec in
    let t = c.in-Some-value_found.ensures.walked in
    let at = pair_pos g.W.Word.word g.K.HasSpec.spec v g.K.HasSpec.laws g.N.HasSpec.laws c.write_value.new.bytes c.args.root c.write_value.ensures.kept.1.valid t.0 t.1 in
    rw (c.new.ensures.0, c.new.ensures.1) (subst (Viewable v c.write_value.new.bytes) (sym t.2) at.value)

pub returns-in-Some-value_found : goal.returns-in-Some-value_found
returns-in-Some-value_found g c =
    let e = g.N.Scalar.encoding in
    let h = g.H.KeyHasher in
    let f : ℕ → ℕ = value_pos g.K.HasSpec.spec g.N.HasSpec.spec in
    let d = c.write_value.new.bytes in
    let hash = hash_of_calls h.hasher (g.Q.KeyHash.calls c.args.key.now) in
    let one = c.write_value.ensures.kept.1.lookups hash (g.Q.Query.fits c.args.key.now) (g.met.H.KeyHasher.fits (g.Q.KeyHash.calls c.args.key.now))
    (rests_on_key g.K.HasSpec.spec (g.Q.Query.fits c.args.key.now) (rests_on_parts g.K.HasSpec.spec g.Q.Query.fits (rests_on_keys g.K.HasSpec.laws g.met.K.ElementEquiv.equivalence g.met.K.KeyElement.key g.met.Q.Query.query) c.args.key.now)) in
    let first = c.in-Some.ensures.finds in
    let same_pos : c.in-Some-value_found.found ≡ c.in-Some.pos = same_Some c.in-Some-value_found.found c.in-Some.pos (c.in-Some-value_found.ensures.finds ∙ ap (option_map f) one ∙ sym first) in
    let read : ScalarRepresents e d c.in-Some-value_found.found c.to_native.result = rw (c.new.ensures.0, c.new.ensures.1) at c.to_native.ensures in
    let new : c.to_native.result ≡ c.args.value = sym (subst (λ n. ScalarRepresents e d n c.to_native.result) same_pos read) ∙ c.write_value.ensures.reads in
    ap Some new ∙ sym (given f _ c.in-Some.pos c.args.value first)

pub returns-in-None-value_found : goal.returns-in-None-value_found
returns-in-None-value_found g c =
    let h = g.H.KeyHasher in
    let f : ℕ → ℕ = value_pos g.K.HasSpec.spec g.N.HasSpec.spec in
    let hash = hash_of_calls h.hasher (g.Q.KeyHash.calls c.args.key.now) in
    let one = c.write_value.ensures.kept.1.lookups hash (g.Q.Query.fits c.args.key.now) (g.met.H.KeyHasher.fits (g.Q.KeyHash.calls c.args.key.now))
    (rests_on_key g.K.HasSpec.spec (g.Q.Query.fits c.args.key.now) (rests_on_parts g.K.HasSpec.spec g.Q.Query.fits (rests_on_keys g.K.HasSpec.laws g.met.K.ElementEquiv.equivalence g.met.K.KeyElement.key g.met.Q.Query.query) c.args.key.now)) in
    absurd (none-some c.in-Some.pos (c.in-None-value_found.ensures.finds ∙ ap (option_map f) one ∙ sym c.in-Some.ensures.finds))
