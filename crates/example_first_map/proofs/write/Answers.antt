use Rattle.std.specs.Int.{w64}
use Rattle.rkyv_base.specs.{unsigned}
use Rattle.rkyv_collections.proofs.ListArchives.{text_map_result}
use Rattle.example_first_map.proofs.write.Goals as goal

pub returns : goal.returns
returns c = text_map_result (unsigned w64) c.to_bytes.result c.new-list.ensures.load_factor c.new-list.ensures.pairs c.to_bytes.ensures
