use Rattle.rkyv_keys.specs.Lemmas.QueryLaws.{hash_local}
use Rattle.rkyv_index.proofs.NestedWrites.{nested_kept}
use Rattle.rkyv_index.proofs.map.laws.nested.nested_writes_keep_index_maps.Goals as goal

pub returns : goal.returns
returns g c = λ b d p i view below writes.
    nested_kept _ g.met.W.Width.layout.kind _ _ g.K.HasSpec.laws g.V.HasSpec.laws b p view d i below writes _ (hash_local g.H.KeyHasher.hasher g.met.K.KeyElement.key)
