use Rattle.rkyv_index.specs.Lemmas.SetSound.{index_set_sound}
use Rattle.rkyv_index.proofs.set.laws.written.written_index_sets_represent.Goals as goal

pub returns : goal.returns
returns g c = λ factor.
    let h = g.H.KeyHasher in
    let key = g.met.A in
    index_set_sound h.hasher g.W.Word.word g.met.W.Width.layout.kind g.K.HasSpec.laws factor g.W.Index.HasSpec.spec g.W.Index.Scalar.encoding g.W.Index.HasSpec.laws g.met.W.Index.Scalar.laws g.met.W.IndexWidth.index g.met.W.IndexWidth.reads_back
    key.Query.query key.NativeKey.native key.Eq.laws.refl key.Archive.laws
