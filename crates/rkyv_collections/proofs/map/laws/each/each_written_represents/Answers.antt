use Rattle.rkyv_keys.specs.{native_pairs}
use Rattle.rkyv_collections.proofs.EachList.{list_written}
use Rattle.rkyv_collections.proofs.map.laws.each.each_written_represents.Goals as goal

pub returns : goal.returns
returns g c = λ write f b d p factor pairs keeps computes view each kept st.
    list_written g.K.HasSpec.spec g.V.HasSpec.spec g.K.HasSpec.laws g.V.HasSpec.laws g.W.Word.word
    (native_pairs g.K.Represents.represents g.V.Represents.represents g.H.KeyHasher.hasher g.K.KeyElement.key_calls) g.met.K.Represents.local g.met.V.Represents.local
    (goal.F-post g) write f b d p factor pairs keeps computes view each kept st
