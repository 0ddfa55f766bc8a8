use Rattle.std.proofs.Common.{◌∙◌, ap}
use Rattle.rkyv_index.proofs.FoundValues.{value_viewable}
use Rattle.test_index.proofs.tests.sealed.value_pos.Goals as goal

pub returns : goal.returns
returns g c =
    let at = c.in_ok-access.ensures.root.1 in
    let bytes = ap (λ v. v.archive.now) c.of-map.ensures.view ∙ ap (λ a. a.now) at.0 in
    let pos = ap (λ v. v.pos) c.of-map.ensures.view ∙ at.1 in
    value_viewable c.of-map.result _ _ bytes pos c.get.result c.found_pos.result c.found_pos.ensures c.get.ensures.walked
