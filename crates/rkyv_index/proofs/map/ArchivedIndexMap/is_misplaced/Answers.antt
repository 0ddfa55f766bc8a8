use Rattle.std.proofs.Common.{◌≡◌, ◌∙◌, ap, true, Option, ℕ, not}
use Rattle.std.specs.List.{find}
use Rattle.rkyv_base.specs.{IsAt, entry_spec}
use Rattle.rkyv_base.specs.Lemmas.Entry.{entry_element}
use Rattle.rkyv_keys.specs.Lemmas.OfEntries.{valid_key}
use Rattle.rkyv_keys.specs.{hash_at, key_view}
use Rattle.rkyv_table.specs.{count_after, is_found_at}
use Rattle.rkyv_index.specs.{index_archive, index_found, index_of, index_strides, key_at, pair_indices, same_keys}
use Rattle.rkyv_index.proofs.Checking.{view_at}
use Rattle.rkyv_index.proofs.ValidIndexMap.{entry_viewable}
use Rattle.rkyv_index.proofs.FirstAccepted.{another_repeated}
use Rattle.rkyv_index.proofs.map.ArchivedIndexMap.is_misplaced.Goals as goal

pub returns-clause-exact : goal.returns-clause-exact
returns-clause-exact g c =
    let m = index_of c.args.self in
    let key_hash = hash_at g.H.KeyHasher.hasher g.K.KeyElement.key_calls in
    let own : _ → ℕ → Option ℕ = λ b q. index_found m.word m.bytes m.pos (key_hash b q) (λ j. g.K.ElementEq.same b q m.bytes (key_at m j)) in
    let at : IsAt (key_view c.of-key.result) (index_archive c.args.self) (key_at m c.args.index) = rw c.of-key.ensures (c.key.ensures.at.0 ∙ c.entry.ensures.at.0, c.key.ensures.at.1 ∙ c.entry.ensures.at.1) in
    c.finds_another_or_none.ensures ∙ ap (λ (o : Option ℕ). not (is_found_at c.args.index o)) (c.index_counted.ensures.found.finds ∙ view_at (key_view c.of-key.result) _ _ at own)

pub returns-clause-repeated : goal.returns-clause-repeated
returns-clause-repeated g c = λ homes written.
    let k = g.K.HasSpec.spec in
    let v = g.V.HasSpec.spec in
    let kl = g.K.HasSpec.laws in
    let vl = g.V.HasSpec.laws in
    let m = index_of c.args.self in
    let i : ℕ = c.args.index in
    let first : _ → ℕ → Option ℕ = λ b q. find (λ j. g.K.ElementEq.same b q m.bytes (key_at m j)) (pair_indices m) in
    let at : IsAt (key_view c.of-key.result) (index_archive c.args.self) (key_at m c.args.index) = rw c.of-key.ensures (c.key.ensures.at.0 ∙ c.entry.ensures.at.0, c.key.ensures.at.1 ∙ c.entry.ensures.at.1) in
    let there = entry_viewable m.word g.met.W.Width.layout.kind (entry_spec k v) (entry_element k v kl vl) m.bytes m.pos c.args.self.valid i c.requires.below in
    let itself : same_keys m (record { hash = hash_at g.H.KeyHasher.hasher g.K.KeyElement.key_calls; same = g.K.ElementEq.same }) i i ≡ true = g.met.K.ElementEquiv.equivalence.reflexive m.bytes (key_at m i) (valid_key kl vl m.bytes (key_at m i) there.valid) in
    c.finds_another_or_none.ensures ∙ ap (λ (o : Option ℕ). not (is_found_at i o)) (c.index_counted.ensures.found.first homes written ∙ view_at (key_view c.of-key.result) _ _ at first)
    ∙ another_repeated _ _ i c.requires.below itself

pub returns-clause-counted : goal.returns-clause-counted
returns-clause-counted g c =
    let m = index_of c.args.self in
    let key_hash = hash_at g.H.KeyHasher.hasher g.K.KeyElement.key_calls in
    let own : _ → ℕ → ℕ = λ b q. count_after c.args.strides.now (index_strides m.word m.bytes m.pos (key_hash b q) (λ j. g.K.ElementEq.same b q m.bytes (key_at m j))) in
    let at : IsAt (key_view c.of-key.result) (index_archive c.args.self) (key_at m c.args.index) = rw c.of-key.ensures (c.key.ensures.at.0 ∙ c.entry.ensures.at.0, c.key.ensures.at.1 ∙ c.entry.ensures.at.1) in
    c.index_counted.ensures.counted ∙ view_at (key_view c.of-key.result) _ _ at own
