use Rattle.std.proofs.Common.{◌∙◌, ap}
use Rattle.rkyv_index.specs.{index_part}
use Rattle.rkyv_index.proofs.FoundValues.{bytes_read}
use Rattle.rkyv_index.proofs.SealedIndex.{found_key_read}
use Rattle.rkyv_index.proofs.map.ArchivedIndexMap.index_in.Goals as goal

pub returns-clause-finds : goal.returns-clause-finds
returns-clause-finds g c =
    found_key_read c.of.result _ _ (bytes_read c.of.ensures.view c.new.ensures.0) (ap (λ v. v.pos) c.of.ensures.view ∙ c.new.ensures.1) index_part c.get_index_of.ensures
