use Rattle.std.specs.Int.{w64}
use Rattle.rkyv_base.specs.{unsigned}
use Rattle.rkyv_collections.proofs.FoundValues.{on_ok}
use Rattle.rkyv_collections.proofs.ListArchives.{text_map_result}
use Rattle.example_symbols.specs.{IsTable, IsTableOf, Represents, TableFails}
use Rattle.example_symbols.proofs.table.archive.Goals as goal

pub returns-clause-whole : goal.returns-clause-whole
unfolding IsTableOf TableFails
returns-clause-whole c = text_map_result (unsigned w64) c.to_bytes.result c.new-list.ensures.load_factor c.new-list.ensures.pairs c.to_bytes.ensures

pub returns-clause-represents : goal.returns-clause-represents
unfolding IsTable IsTableOf Represents
returns-clause-represents c = on_ok (λ table. IsTableOf c.args.symbols.now table.items) (λ table. IsTable table.items × Represents table.items c.args.symbols.now) (TableFails c.args.symbols.now) c.to_bytes.result (λ table h. (h.0, h.1)) (returns-clause-whole c)
