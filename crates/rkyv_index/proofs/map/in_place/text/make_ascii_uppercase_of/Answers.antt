use Rattle.std.proofs.Common.{cond, refl}
use Rattle.rkyv_base.specs.{IsTextOf, text_spec}
use Rattle.rkyv_base.specs.Lemmas.Text.{text_element}
use Rattle.rkyv_keys.specs.{hash_at, uppercase_text}
use Rattle.rkyv_index.specs.{IndexRepresents}
use Rattle.rkyv_index.proofs.FirstWrites.{none_listed, some_listed}
use Rattle.rkyv_index.proofs.FoundValues.{found_at}
use Rattle.rkyv_index.proofs.map.in_place.text.make_ascii_uppercase_of.Goals as goal

pub returns-clause-uppercases : goal.returns-clause-uppercases
returns-clause-uppercases g c =
    found_at (c.make_ascii_uppercase_at.result, refl, c.make_ascii_uppercase_at.ensures.uppercases, c.make_ascii_uppercase_at.ensures.kept) c.in_ok-index.ensures.finds

pub returns-clause-listed : goal.returns-clause-listed
returns-clause-listed g c = λ factor pairs st.
    let w = g.W.Word.word in
    let kind = g.met.W.Width.layout.kind in
    let k = g.K.HasSpec.spec in
    let v = text_spec w in
    let key = g.K.Represents.represents in
    let value = IsTextOf w (λ text. text.now) in
    let key_hash = hash_at g.H.KeyHasher.hasher g.K.KeyElement.key_calls in
    some_listed w kind k v g.K.HasSpec.laws (text_element w kind) c.args.archive.now c.args.root c.requires.map key value key_hash factor pairs
    (g.A.Query.fits c.args.key.now) (g.A.PartialEq.eq c.args.key.now) (λ a q s there. g.met.A.NativeKey.native c.args.key.now a c.args.archive.now q s there) st uppercase_text
    c.in_ok-index.index (c.in_ok-index.ensures.finds.first st.homes st.written)
    (λ l. IndexRepresents w k v key value key_hash factor c.make_ascii_uppercase_at.new.archive c.args.root (cond c.make_ascii_uppercase_at.result l pairs))
    (λ pair at. c.make_ascii_uppercase_at.ensures.listed factor pairs pair (uppercase_text pair.1) st at refl)

pub returns-in_err-index-clause-uppercases : goal.returns-in_err-index-clause-uppercases
returns-in_err-index-clause-uppercases g c = rw c.from_residual.ensures (found_at (refl, refl) c.in_err-index.ensures.finds)

pub returns-in_err-index-clause-listed : goal.returns-in_err-index-clause-listed
returns-in_err-index-clause-listed g c = λ factor pairs st.
    let w = g.W.Word.word in
    let kind = g.met.W.Width.layout.kind in
    let none = none_listed w kind g.K.HasSpec.spec (text_spec w) g.K.HasSpec.laws (text_element w kind) c.args.archive.now c.args.root c.requires.map g.K.Represents.represents
    (IsTextOf w (λ text. text.now)) (hash_at g.H.KeyHasher.hasher g.K.KeyElement.key_calls) factor pairs (g.A.Query.fits c.args.key.now) (g.A.PartialEq.eq c.args.key.now)
    (λ a q s there. g.met.A.NativeKey.native c.args.key.now a c.args.archive.now q s there) st uppercase_text (c.in_err-index.ensures.finds.first st.homes st.written) in
    rw c.from_residual.ensures (none.0, st)
