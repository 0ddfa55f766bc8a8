use Rattle.rkyv_keys.specs.{hash_at}
use Rattle.rkyv_keys.specs.Lemmas.QueryLaws.{hash_local}
use Rattle.rkyv_collections.proofs.NestedWrites.{nested_first}
use Rattle.rkyv_collections.proofs.map.laws.nested.nested_writes_represent.Goals as goal

pub returns : goal.returns
returns g c = λ b d p pos factor pairs query new view st first writes represents.
    let h = g.H.KeyHasher in
    nested_first g.W.Word.word g.K.HasSpec.spec g.V.HasSpec.spec g.K.HasSpec.laws g.V.HasSpec.laws g.K.Represents.represents g.V.Represents.represents
    (hash_at h.hasher g.K.KeyElement.key_calls) factor b p pairs new (g.Q.Query.fits query b) (g.Q.NativeQuery.equals query) view
    (λ a q s there. g.met.Q.NativeQuery.finds query a b q s there) st g.met.K.Represents.local g.met.V.Represents.local
    (hash_local h.hasher g.met.K.KeyElement.key)
    d pos (first st.homes st.written) writes represents
