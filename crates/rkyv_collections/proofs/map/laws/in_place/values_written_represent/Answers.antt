use Rattle.rkyv_keys.specs.{hash_at}
use Rattle.rkyv_keys.specs.Lemmas.QueryLaws.{hash_local}
use Rattle.rkyv_collections.proofs.ValueWrites.{written_value_represents}
use Rattle.rkyv_collections.proofs.map.laws.in_place.values_written_represent.Goals as goal

pub returns : goal.returns
returns g c = λ b d p n factor pairs pair new view st there writes represents.
    let h = g.H.KeyHasher in
    written_value_represents g.K.HasSpec.spec g.V.HasSpec.spec g.K.HasSpec.laws g.V.HasSpec.laws g.W.Word.word (hash_at h.hasher g.K.KeyElement.key_calls)
    (hash_local h.hasher g.met.K.KeyElement.key)
    g.K.Represents.represents g.V.Represents.represents g.met.K.Represents.local g.met.V.Represents.local b d p n factor pairs pair new view st there writes represents
