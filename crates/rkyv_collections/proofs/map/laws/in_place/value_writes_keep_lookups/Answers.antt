use Rattle.rkyv_keys.specs.Lemmas.QueryLaws.{hash_local, rests_on_keys}
use Rattle.rkyv_keys.specs.{hash_at, hash_of}
use Rattle.rkyv_table.proofs.NestedEntries.{rests_on_key}
use Rattle.rkyv_collections.proofs.ValueWrites.{map_kept, rests_on_parts}
use Rattle.rkyv_collections.proofs.map.laws.in_place.value_writes_keep_lookups.Goals as goal

pub returns : goal.returns
returns g c = λ b d p i view walked writes q.
    let h = g.H.KeyHasher in
    let s = g.K.HasSpec.spec in
    let kept = map_kept s g.V.HasSpec.spec g.K.HasSpec.laws g.V.HasSpec.laws g.W.Word.word (hash_at h.hasher g.K.KeyElement.key_calls)
    (hash_local h.hasher g.met.K.KeyElement.key)
    b d p i view walked writes in
    let rests = rests_on_keys g.K.HasSpec.laws g.met.K.ElementEquiv.equivalence g.met.K.KeyElement.key g.met.Q.Query.query in
    kept.lookups (hash_of h.hasher g.Q.KeyHash.calls q) (g.Q.Query.fits q) (g.met.H.KeyHasher.fits (g.Q.KeyHash.calls q))
    (rests_on_key s (g.Q.Query.fits q) (rests_on_parts s g.Q.Query.fits rests q))
