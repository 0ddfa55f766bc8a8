use Rattle.std.proofs.Common.{◌∙◌, ap}
use Rattle.rkyv_index.proofs.FoundValues.{bytes_read, value_found_by, value_viewable}
use Rattle.rkyv_index.proofs.map.ArchivedIndexMap.value_pos_by.Goals as goal

pub returns-clause-finds : goal.returns-clause-finds
returns-clause-finds g c =
    value_found_by c.of-map.result _ _ (bytes_read c.of-map.ensures.view c.new.ensures.0) (ap (λ v. v.pos) c.of-map.ensures.view ∙ c.new.ensures.1) _ (goal.F-post g c.args.cmp c.args.key)
    c.get_with.result c.found_pos.result c.found_pos.ensures c.get_with.ensures

pub returns-clause-viewable : goal.returns-clause-viewable
returns-clause-viewable g c =
    value_viewable c.of-map.result _ _ (bytes_read c.of-map.ensures.view c.new.ensures.0) (ap (λ v. v.pos) c.of-map.ensures.view ∙ c.new.ensures.1) c.get_with.result c.found_pos.result c.found_pos.ensures c.get_with.ensures.walked
