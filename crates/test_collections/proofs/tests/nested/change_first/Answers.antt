use Rattle.std.proofs.Common.{ap, subst, sym}
use Rattle.std.specs.Int.{w16, w32, w8}
use Rattle.rkyv_base.specs.{Viewable, entry_spec, scalar_spec, unsigned}
use Rattle.rkyv_collections.specs.{map_spec}
use Rattle.test_collections.proofs.tests.nested.change_first.Goals as goal

pub set_in_first-requires : goal.set_in_first-requires
set_in_first-requires c =
    let byte = scalar_spec (unsigned w8) in
    let number = scalar_spec (unsigned w16) in
    let s = map_spec w32 (entry_spec byte byte) (map_spec w32 number number) in
    let at = c.in_ok-access.ensures.root.1 in
    subst (Viewable s c.args.bytes.now) (sym c.pos-root.ensures) (subst (λ b. Viewable s b c.in_ok-access.field-0.pos) (ap (λ a. a.now) at.0) c.in_ok-access.ensures.viewable)
