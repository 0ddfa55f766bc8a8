use Rattle.rkyv_collections.specs.Lemmas.SetSound.{set_sound}
use Rattle.rkyv_collections.proofs.set.laws.written.written_sets_represent.Goals as goal

pub returns : goal.returns
returns g c = λ factor.
    let h = g.H.KeyHasher in
    let key = g.met.A in
    set_sound h.hasher g.W.Word.word g.K.HasSpec.laws factor g.met.W.Width.layout.kind
    key.Query.query key.NativeKey.native key.Eq.laws.refl key.Archive.laws
