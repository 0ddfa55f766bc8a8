use Rattle.std.proofs.Common.{◌∙◌, ap}
use Rattle.rkyv_index.proofs.FoundValues.{bytes_read, value_found}
use Rattle.rkyv_index.proofs.map.ArchivedIndexMap.value_pos_in.Goals as goal

pub returns-clause-finds : goal.returns-clause-finds
returns-clause-finds g c =
    value_found c.of-map.result _ _ (bytes_read c.of-map.ensures.view c.new.ensures.0) (ap (λ v. v.pos) c.of-map.ensures.view ∙ c.new.ensures.1) _ c.get.result c.found_pos.result c.found_pos.ensures c.get.ensures
