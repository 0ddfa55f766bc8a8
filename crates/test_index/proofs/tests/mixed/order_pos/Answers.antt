use Rattle.std.proofs.Common.{ap, sym, ◌∙◌}
use Rattle.std.specs.Int.{w32, w8}
use Rattle.rkyv_base.specs.{Viewable, entry_spec, scalar_spec, signed}
use Rattle.rkyv_table.proofs.Moved.{moved}
use Rattle.rkyv_collections.proofs.FoundValues.{read_at}
use Rattle.rkyv_index.specs.{index_spec}
use Rattle.test_index.proofs.tests.mixed.order_pos.Goals as goal

pub returns-in-Some : goal.returns-in-Some
returns-in-Some c =
    let inner = index_spec w32 (entry_spec (scalar_spec (signed w8)) (scalar_spec (signed w8))) in
    let is = c.in-Some.ensures.walked in
    let at = read_at c.of-outer.result _ _ _ c.of-outer.ensures.view c.in_ok-access.ensures.root.1 in
    moved (Viewable inner) _ _ _ _ (ap (λ a. a.now) is.at.0 ∙ at.0) (sym c.pos.ensures) is.viewable
