use Rattle.std.proofs.Common.{◌≡◌, arith, subst, sym}
use Rattle.std.specs.Prelude.{take}
use Rattle.rkyv_base.specs.Lemmas.Entry.{key_and_value_inside}
use Rattle.rkyv_base.specs.{Viewable, value_pos}
use Rattle.rkyv_base.proofs.Sealing.{front_viewable}
use Rattle.rkyv_collections.proofs.map.in_place.iter_seal.pair_at.Goals as goal

pub returns-in_err-key-clause-found : goal.returns-in_err-key-clause-found
returns-in_err-key-clause-found g c = λ there.
    let k = g.K.HasSpec.spec in
    let v = g.V.HasSpec.spec in
    let q = c.args.pos in
    let inside = key_and_value_inside k v in
    let front = front_viewable k g.K.HasSpec.laws c.args.archive.now (value_pos k v q) q (omega (arith, inside.0)) (omega arith) there in
    let same : c.split_at_mut-front.result.0.now ≡ take (value_pos k v q) c.args.archive.now = rw (sym c.value_offset.ensures.value) c.split_at_mut-front.ensures.front in
    absurd (c.in_err-key.ensures (subst (λ b. Viewable k b q) (sym same) front))
