use Rattle.std.proofs.Common.{subst}
use Rattle.rkyv_base.specs.{value_pos}
use Rattle.rkyv_keys.specs.{hash_at, hash_of}
use Rattle.rkyv_keys.specs.Lemmas.QueryLaws.{hash_local, rests_on_keys}
use Rattle.rkyv_table.specs.{WritesAmongParts}
use Rattle.rkyv_collections.proofs.NestedWrites.{nested_kept}
use Rattle.rkyv_collections.proofs.ValueWrites.{rests_on_parts}
use Rattle.rkyv_collections.proofs.map.laws.nested.nested_writes_keep_lookups.Goals as goal

pub returns : goal.returns
returns g c = λ b d p pos view at writes q.
    let h = g.H.KeyHasher in
    let k = g.K.HasSpec.spec in
    let v = g.V.HasSpec.spec in
    let kept = nested_kept g.W.Word.word k v g.K.HasSpec.laws g.V.HasSpec.laws (hash_at h.hasher g.K.KeyElement.key_calls)
    (hash_local h.hasher g.met.K.KeyElement.key)
    b d p at.0 view at.1 (subst (λ z. WritesAmongParts v b d (value_pos k v z)) at.2 writes) in
    let rests = rests_on_keys g.K.HasSpec.laws g.met.K.ElementEquiv.equivalence g.met.K.KeyElement.key g.met.Q.Query.query in
    kept.lookups (hash_of h.hasher g.Q.KeyHash.calls q) (g.Q.Query.fits q) (g.met.H.KeyHasher.fits (g.Q.KeyHash.calls q))
    (rests_on_parts k g.Q.Query.fits rests q)
