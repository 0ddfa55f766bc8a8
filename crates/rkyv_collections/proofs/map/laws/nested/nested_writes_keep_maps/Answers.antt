use Rattle.std.proofs.Common.{subst}
use Rattle.rkyv_base.specs.{value_pos}
use Rattle.rkyv_keys.specs.{hash_at}
use Rattle.rkyv_keys.specs.Lemmas.QueryLaws.{hash_local}
use Rattle.rkyv_table.specs.{WritesAmongParts}
use Rattle.rkyv_collections.proofs.NestedWrites.{nested_kept}
use Rattle.rkyv_collections.proofs.map.laws.nested.nested_writes_keep_maps.Goals as goal

pub returns : goal.returns
returns g c = λ b d p q view at writes.
    let h = g.H.KeyHasher in
    let k = g.K.HasSpec.spec in
    let v = g.V.HasSpec.spec in
    nested_kept g.W.Word.word k v g.K.HasSpec.laws g.V.HasSpec.laws (hash_at h.hasher g.K.KeyElement.key_calls)
    (hash_local h.hasher g.met.K.KeyElement.key)
    b d p at.0 view at.1 (subst (λ z. WritesAmongParts v b d (value_pos k v z)) at.2 writes)
