use Rattle.std.proofs.Common.{ap, subst, sym}
use Rattle.std.specs.Int.{w32}
use Rattle.rkyv_base.specs.{Viewable, entry_spec, scalar_spec, signed, text_spec}
use Rattle.rkyv_collections.specs.{map_spec}
use Rattle.test_collections.proofs.tests.recipes.move_point.Goals as goal

pub found_with-found-requires-clause-map : goal.found_with-found-requires-clause-map
found_with-found-requires-clause-map c =
    let number = scalar_spec (signed w32) in
    let s = map_spec w32 (text_spec w32) (entry_spec number number) in
    let at = c.in_ok-access.ensures.root.1 in
    subst (Viewable s c.args.archive.now) (sym c.pos-root.ensures) (subst (λ b. Viewable s b c.in_ok-access.field-0.pos) (ap (λ a. a.now) at.0) c.in_ok-access.ensures.viewable)
