use Rattle.rkyv_index.specs.{index_part}
use Rattle.rkyv_index.proofs.SealedIndex.{found_by_read}
use Rattle.rkyv_index.proofs.map.ArchivedIndexMap.index_with_in.Goals as goal

pub returns-clause-finds : goal.returns-clause-finds
returns-clause-finds g c = found_by_read c.read.result _ _ c.read.ensures.bytes c.read.ensures.pos index_part c.index_with.ensures.found
