use Rattle.std.proofs.Common.{ap, subst, sym}
use Rattle.rkyv_base.specs.{Viewable}
use Rattle.rkyv_collections.specs.{map_spec}
use Rattle.test_collections.proofs.tests.in_place.write_over.Goals as goal

pub values_over-rest-requires : goal.values_over-rest-requires
values_over-rest-requires g c =
    let s = map_spec g.W.Word.word g.K.HasSpec.spec g.N.HasSpec.spec in
    let at = c.in_ok-access_in.ensures.root.1 in
    record { map = subst (Viewable s c.args.bytes.now) (sym c.pos-root.ensures) (subst (λ b. Viewable s b c.in_ok-access_in.field-0.pos) (ap (λ a. a.now) at.0) c.in_ok-access_in.ensures.viewable) }
