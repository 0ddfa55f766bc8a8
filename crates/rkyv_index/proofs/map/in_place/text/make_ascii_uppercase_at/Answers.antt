use Rattle.rkyv_base.specs.Lemmas.Text.{text_element}
use Rattle.rkyv_keys.specs.Lemmas.QueryLaws.{hash_local}
use Rattle.rkyv_index.proofs.UppercaseTexts.{text_written, uppercased_listed}
use Rattle.rkyv_index.proofs.ValueWrites.{index_kept, value_nested}
use Rattle.rkyv_index.proofs.map.in_place.text.make_ascii_uppercase_at.Goals as goal

pub returns-clause-kept : goal.returns-clause-kept
returns-clause-kept g c =
    let w = g.W.Word.word in
    let kind = g.met.W.Width.layout.kind in
    let pos = c.value_pos_at-pos.ensures in
    index_kept w kind _ _ g.K.HasSpec.laws (text_element w kind) _ _ c.requires.map _ _ c.requires.below
    (text_written w _ _ _ _ _ _ _ pos.at pos.inside c.uppercase_at.ensures) _ (hash_local g.H.KeyHasher.hasher g.met.K.KeyElement.key)

pub returns-clause-listed : goal.returns-clause-listed
returns-clause-listed g c = λ factor pairs pair text st there upper.
    let w = g.W.Word.word in
    let kind = g.met.W.Width.layout.kind in
    let pos = c.value_pos_at-pos.ensures in
    uppercased_listed w kind _ g.K.HasSpec.laws (text_element w kind) _ _ c.requires.map _ _ c.requires.below
    _ _ (hash_local g.H.KeyHasher.hasher g.met.K.KeyElement.key) g.met.K.Represents.local factor pairs pair text _ _ pos.at pos.inside c.uppercase_at.ensures st there upper

pub returns-clause-parts : goal.returns-clause-parts
returns-clause-parts g c =
    let w = g.W.Word.word in
    let kind = g.met.W.Width.layout.kind in
    let pos = c.value_pos_at-pos.ensures in
    value_nested w kind _ _ g.K.HasSpec.laws (text_element w kind) _ _ c.requires.map _ _ c.requires.below
    (text_written w _ _ _ _ _ _ _ pos.at pos.inside c.uppercase_at.ensures)
