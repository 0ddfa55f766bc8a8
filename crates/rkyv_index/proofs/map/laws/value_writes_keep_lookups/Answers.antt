use Rattle.rkyv_keys.specs.Lemmas.QueryLaws.{hash_local, rests_on_keys}
use Rattle.rkyv_keys.specs.{hash_of}
use Rattle.rkyv_table.proofs.NestedEntries.{rests_on_key}
use Rattle.rkyv_index.proofs.ValueWrites.{index_kept, rests_on_parts}
use Rattle.rkyv_index.proofs.map.laws.value_writes_keep_lookups.Goals as goal

pub returns : goal.returns
returns g c = λ q b d p i view below writes.
    let kept = index_kept g.W.Word.word g.met.W.Width.layout.kind g.K.HasSpec.spec g.V.HasSpec.spec g.K.HasSpec.laws g.V.HasSpec.laws b p view d i below writes _ (hash_local g.H.KeyHasher.hasher g.met.K.KeyElement.key) in
    let rests = rests_on_keys g.K.HasSpec.laws g.met.K.ElementEquiv.equivalence g.met.K.KeyElement.key g.met.Q.Query.query in
    kept.lookups (hash_of g.H.KeyHasher.hasher g.Q.KeyHash.calls q) (g.Q.Query.fits q) (g.met.H.KeyHasher.fits (g.Q.KeyHash.calls q)) (rests_on_key _ _ (rests_on_parts _ _ rests q))
