use Rattle.std.proofs.Common.{Some, refl, subst}
use Rattle.rkyv_base.specs.{text_spec}
use Rattle.rkyv_base.specs.Lemmas.Text.{text_element}
use Rattle.rkyv_base.proofs.SealedText.{uppercased_sealed, uppercased_valid}
use Rattle.rkyv_keys.specs.Lemmas.QueryLaws.{hash_local}
use Rattle.rkyv_keys.specs.{hash_at}
use Rattle.rkyv_collections.specs.{UppercasesFound}
use Rattle.rkyv_collections.proofs.NestedWrites.{value_nested_at}
use Rattle.rkyv_collections.proofs.UppercaseTexts.{first_uppercased, none_uppercased}
use Rattle.rkyv_collections.proofs.SealedMap.{satisfies_implied}
use Rattle.rkyv_collections.proofs.ValueWrites.{map_kept_at}
use Rattle.rkyv_collections.proofs.map.in_place.text.make_ascii_uppercase_of.Goals as goal

pub returns-clause-uppercases : goal.returns-clause-uppercases
returns-clause-uppercases g c =
    let w = g.W.Word.word in
    let key_hash = hash_at g.H.KeyHasher.hasher g.K.KeyElement.key_calls in
    let t = c.in_ok-pos.ensures.walked in
    let raised = c.uppercase_at.ensures in
    let sealed = uppercased_sealed w c.args.archive.now c.in_ok-pos.pos c.in_ok-pos.ensures.inside _ _ raised in
    let is_valid = uppercased_valid w c.args.archive.now c.in_ok-pos.pos c.in_ok-pos.ensures.inside _ _ raised in
    let kept = map_kept_at g.K.HasSpec.spec (text_spec w) g.K.HasSpec.laws (text_element w g.met.W.Width.layout.kind) w key_hash
    (hash_local g.H.KeyHasher.hasher g.met.K.KeyElement.key)
    c.args.archive.now c.uppercase_at.new.bytes c.args.root t.0 c.in_ok-pos.pos c.requires.map t.1 t.2 sealed is_valid in
    satisfies_implied _ _ _ _ (λ key_pos at. subst (UppercasesFound w g.K.HasSpec.spec key_hash c.args.archive.now c.args.root (Some c.uppercase_at.result) c.uppercase_at.new.bytes) at (c.uppercase_at.result, refl, raised, kept)) c.in_ok-pos.ensures.finds

pub returns-clause-listed : goal.returns-clause-listed
returns-clause-listed g c = λ factor pairs st.
    let b = c.args.archive.now in
    first_uppercased g.W.Word.word g.K.HasSpec.spec g.K.HasSpec.laws (text_element g.W.Word.word g.met.W.Width.layout.kind) g.K.Represents.represents (hash_at g.H.KeyHasher.hasher g.K.KeyElement.key_calls) factor b c.args.root pairs
    (g.A.Query.fits c.args.key.now b) (g.A.PartialEq.eq c.args.key.now) c.requires.map (λ a q s there. g.met.A.NativeKey.native c.args.key.now a b q s there) st g.met.K.Represents.local
    (hash_local g.H.KeyHasher.hasher g.met.K.KeyElement.key)
    c.uppercase_at.new.bytes c.in_ok-pos.pos c.uppercase_at.result c.in_ok-pos.ensures.inside (c.in_ok-pos.ensures.finds.first st.homes st.written) c.uppercase_at.ensures

pub returns-clause-parts : goal.returns-clause-parts
returns-clause-parts g c =
    let w = g.W.Word.word in
    let b = c.args.archive.now in
    let t = c.in_ok-pos.ensures.walked in
    let inside = c.in_ok-pos.ensures.inside in
    let raised = c.uppercase_at.ensures in
    value_nested_at w g.K.HasSpec.spec (text_spec w) g.K.HasSpec.laws (text_element w g.met.W.Width.layout.kind) b c.uppercase_at.new.bytes c.args.root t.0 c.in_ok-pos.pos c.requires.map t.1 t.2
    (uppercased_sealed w b c.in_ok-pos.pos inside _ _ raised) (uppercased_valid w b c.in_ok-pos.pos inside _ _ raised)

pub returns-in_err-pos-clause-listed : goal.returns-in_err-pos-clause-listed
returns-in_err-pos-clause-listed g c = λ factor pairs st.
    let b = c.args.archive.now in
    rw c.from_residual.ensures (none_uppercased g.W.Word.word g.K.HasSpec.spec g.K.HasSpec.laws (text_element g.W.Word.word g.met.W.Width.layout.kind) g.K.Represents.represents (hash_at g.H.KeyHasher.hasher g.K.KeyElement.key_calls) factor b c.args.root pairs
    (g.A.Query.fits c.args.key.now b) (g.A.PartialEq.eq c.args.key.now) c.requires.map (λ a q s there. g.met.A.NativeKey.native c.args.key.now a b q s there) st (c.in_err-pos.ensures.finds.first st.homes st.written))

pub returns-in_err-pos-clause-uppercases : goal.returns-in_err-pos-clause-uppercases
returns-in_err-pos-clause-uppercases g c =
    let b = c.args.archive.now in
    satisfies_implied _ _ _ _ (λ key_pos at. subst (UppercasesFound g.W.Word.word g.K.HasSpec.spec (hash_at g.H.KeyHasher.hasher g.K.KeyElement.key_calls) b c.args.root c.from_residual.result b)
    at (c.from_residual.ensures, refl)) c.in_err-pos.ensures.finds
