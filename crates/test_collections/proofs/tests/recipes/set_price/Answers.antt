use Rattle.std.proofs.Common.{ap, subst, sym}
use Rattle.std.specs.Int.{w32}
use Rattle.rkyv_base.specs.{Viewable, scalar_spec, text_spec, unsigned}
use Rattle.rkyv_collections.specs.{map_spec}
use Rattle.test_collections.proofs.tests.recipes.set_price.Goals as goal

pub set_value_of-requires : goal.set_value_of-requires
set_value_of-requires c =
    let s = map_spec w32 (text_spec w32) (scalar_spec (unsigned w32)) in
    let at = c.in_ok-access.ensures.root.1 in
    record { map = subst (Viewable s c.args.archive.now) (sym c.pos-root.ensures) (subst (λ b. Viewable s b c.in_ok-access.field-0.pos) (ap (λ a. a.now) at.0) c.in_ok-access.ensures.viewable) }
