use Rattle.rkyv_collections.specs.Lemmas.MapSound.{map_sound}
use Rattle.rkyv_collections.proofs.map.laws.written.written_maps_represent.Goals as goal

pub returns : goal.returns
returns g c = λ factor.
    let h = g.H.KeyHasher in
    let key = g.met.A in
    map_sound h.hasher g.W.Word.word g.K.HasSpec.laws g.V.HasSpec.laws factor g.met.W.Width.layout.kind
    key.Query.query key.NativeKey.native key.Eq.laws.refl key.Archive.laws g.met.B.Archive.laws
