use Rattle.rkyv_collections.proofs.StdFinding.{entries_looked_up}
use Rattle.rkyv_collections.proofs.std_maps.nested.nested_maps_are_looked_up.Goals as goal

pub returns : goal.returns
returns g c =
    let key = g.met.A in
    entries_looked_up g.H.KeyHasher.hasher g.met.H.KeyHasher.fits g.W.Word.word g.met.W.Width.layout.kind g.W.Width.MAX_CAPACITY g.A.Archived.HasSpec.laws g.B.Archived.HasSpec.laws
    g.met.Q.Query.query key.Query.query key.NativeKey.native key.Eq.laws.refl key.Archive.laws g.met.R.WrittenRelation.written (λ x. x.map.entries)
