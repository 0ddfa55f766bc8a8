use Rattle.std.proofs.Common.{ap, subst, sym}
use Rattle.rkyv_base.specs.{Viewable, entry_spec}
use Rattle.rkyv_index.specs.{index_spec}
use Rattle.test_index.proofs.tests.in_place.change_found.Goals as goal

pub found_with-requires-clause-map : goal.found_with-requires-clause-map
found_with-requires-clause-map g c =
    let s = index_spec g.W.Word.word (entry_spec g.K.HasSpec.spec g.N.HasSpec.spec) in
    let at = c.in_ok-access_in.ensures.root.1 in
    subst (Viewable s c.args.bytes.now) (sym c.pos-root.ensures) (subst (λ b. Viewable s b c.in_ok-access_in.field-0.pos) (ap (λ a. a.now) at.0) c.in_ok-access_in.ensures.viewable)
