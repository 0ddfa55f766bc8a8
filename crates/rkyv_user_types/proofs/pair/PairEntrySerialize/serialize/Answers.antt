use Rattle.std.proofs.Common.{◌≡◌, ◌∙◌, ap, subst}
use Rattle.rkyv_base.specs.{Serializes, pair_format}
use Rattle.rkyv_user_types.proofs.pair.PairEntrySerialize.serialize.Goals as goal

same_pair : {A B : Type 0} (a : A) (b : B) (pair : A × B) → a ≡ pair.0 → b ≡ pair.1 → (a, b) ≡ pair
same_pair a b pair e d = ap (λ x. (x, b)) e ∙ ap (λ y. (pair.0, y)) d

pub returns : goal.returns
returns g c =
    let f = pair_format g.A.Archived.HasSpec.spec g.B.Archived.HasSpec.spec g.A.Archive.format
    g.B.Archive.format in
    let first = ap (λ a. a.now) c.new-adapter.ensures.key ∙ c.first.ensures in
    let second = ap (λ a. a.now) c.new-adapter.ensures.value ∙ c.second.ensures in
    subst (λ pair. Serializes g.W.Width.LIMIT f pair (g.S.Writer.output c.args.serializer.now)
    (g.S.Writer.output c.serialize.new.serializer) c.serialize.result)
    (same_pair c.new-adapter.result.key.now c.new-adapter.result.value.now (g.T.AsPair.pair
    c.args.self.now.0) first second) c.serialize.ensures
