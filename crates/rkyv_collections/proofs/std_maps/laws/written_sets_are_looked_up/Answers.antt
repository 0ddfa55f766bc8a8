use Rattle.rkyv_base.specs.Lemmas.Empty.{unit_element, unit_is_format}
use Rattle.rkyv_keys.specs.{hash_of}
use Rattle.rkyv_table.specs.{with_units}
use Rattle.rkyv_collections.specs.{set_spec}
use Rattle.rkyv_collections.proofs.StdFinding.{entries_looked_up, members_looked_up}
use Rattle.rkyv_collections.proofs.std_maps.laws.written_sets_are_looked_up.Goals as goal

pub returns : goal.returns
returns g c =
    let w = g.W.Word.word in
    let k = g.A.Archived.HasSpec.spec in
    let own = g.met.A in
    members_looked_up w k (set_spec w k) g.A.Archived.Represents.represents (hash_of g.H.KeyHasher.hasher g.Q.KeyHash.calls) g.Q.Query.fits (λ x. x.map.keys) _
    (entries_looked_up g.H.KeyHasher.hasher g.met.H.KeyHasher.fits w g.met.W.Width.layout.kind g.W.Width.MAX_CAPACITY g.A.Archived.HasSpec.laws unit_element
    g.met.Q.Query.query own.Query.query own.NativeKey.native own.Eq.laws.refl own.Archive.laws unit_is_format (λ x. with_units x.map.keys))
