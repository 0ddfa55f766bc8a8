use Rattle.std.proofs.Common.{ap, sym, ◌∙◌}
use Rattle.std.specs.Int.{w32}
use Rattle.rkyv_base.specs.{Viewable, scalar_spec, text_spec, unsigned}
use Rattle.rkyv_table.proofs.Moved.{moved}
use Rattle.rkyv_collections.proofs.FoundValues.{read_at}
use Rattle.rkyv_collections.specs.{map_spec}
use Rattle.test_collections.proofs.tests.recipes.pos_of_room.Goals as goal

pub returns-in-Some : goal.returns-in-Some
returns-in-Some c =
    let things = map_spec w32 (text_spec w32) (scalar_spec (unsigned w32)) in
    let is = c.in-Some.ensures.walked in
    let at = read_at c.of-map.result _ _ _ c.of-map.ensures.view c.in_ok-access.ensures.root.1 in
    moved (Viewable things) _ _ _ _ (ap (λ a. a.now) is.at.0 ∙ at.0) (sym c.pos.ensures) is.viewable
