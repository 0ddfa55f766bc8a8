use Rattle.rkyv_keys.specs.{hash_at}
use Rattle.rkyv_keys.specs.Lemmas.QueryLaws.{hash_local}
use Rattle.rkyv_collections.proofs.ValueWrites.{map_kept}
use Rattle.rkyv_collections.proofs.map.laws.in_place.value_writes_keep_maps.Goals as goal

pub returns : goal.returns
returns g c = λ b d p i view walked writes.
    let h = g.H.KeyHasher in
    map_kept g.K.HasSpec.spec g.V.HasSpec.spec g.K.HasSpec.laws g.V.HasSpec.laws g.W.Word.word (hash_at h.hasher g.K.KeyElement.key_calls)
    (hash_local h.hasher g.met.K.KeyElement.key)
    b d p i view walked writes
