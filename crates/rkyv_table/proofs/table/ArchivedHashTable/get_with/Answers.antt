use Rattle.rkyv_table.proofs.FoundItems.{found_by_paired}
use Rattle.rkyv_table.proofs.table.ArchivedHashTable.get_with.Goals as goal

pub returns : goal.returns
returns g c = found_by_paired _ c.args.self c.args.hash c.get_counted_by.result c.get_counted_by.ensures.found
