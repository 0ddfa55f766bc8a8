use Rattle.std.proofs.Common.{ap, subst, sym}
use Rattle.rkyv_scan.specs.{hash_of_calls}
use Rattle.rkyv_base.specs.{Viewable}
use Rattle.rkyv_keys.specs.{hash_at}
use Rattle.rkyv_collections.proofs.SealedMap.{pair_pos}
use Rattle.rkyv_collections.proofs.ValueWrites.{map_kept_at}
use Rattle.test_collections.proofs.tests.sealed.write_value.Goals as goal

pub set_at-requires : goal.set_at-requires
set_at-requires g c =
    let v = g.N.HasSpec.spec in
    let t = c.requires.key_pos in
    let at = pair_pos g.W.Word.word g.K.HasSpec.spec v g.K.HasSpec.laws g.N.HasSpec.laws c.args.bytes.now c.args.root c.requires.map t.0 t.1 in
    (subst (Viewable v c.args.bytes.now) (sym t.2) at.value).inside

pub returns-clause-kept : goal.returns-clause-kept
returns-clause-kept g c =
    let h = g.H.KeyHasher in
    let t = c.requires.key_pos in
    let kept = map_kept_at g.K.HasSpec.spec g.N.HasSpec.spec g.K.HasSpec.laws g.N.HasSpec.laws g.W.Word.word (hash_at h.hasher g.K.KeyElement.key_calls)
    (λ x y q lo hi l o is_valid fixed part. ap (hash_of_calls h.hasher) (g.met.K.KeyElement.key.local x y q lo hi l o is_valid fixed part))
    c.args.bytes.now c.set_at.new.bytes c.args.root t.0 c.args.pos c.requires.map t.1 t.2 c.set_at.ensures.sealed c.set_at.ensures.is_valid in
    (kept.0, kept.3)
