use Rattle.rkyv_keys.specs.Lemmas.QueryLaws.{hash_local}
use Rattle.rkyv_index.specs.Lemmas.IndexLaws.{listed_below}
use Rattle.rkyv_index.proofs.ValueWrites.{written_value_represents}
use Rattle.rkyv_index.proofs.map.laws.values_written_represent.Goals as goal

pub returns : goal.returns
returns g c = λ b d p n factor pairs pair new view st there writes represents.
    written_value_represents _ g.met.W.Width.layout.kind _ _ g.K.HasSpec.laws g.V.HasSpec.laws b p view d n (listed_below pairs _ n pair st.len there) writes _ (hash_local g.H.KeyHasher.hasher g.met.K.KeyElement.key)
    _ _ g.met.K.Represents.local g.met.V.Represents.local factor pairs pair new st there represents
