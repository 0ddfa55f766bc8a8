use Rattle.rkyv_table.proofs.FoundItems.{counted_by_paired, found_by_paired}
use Rattle.rkyv_table.proofs.table.ArchivedHashTable.get_counted.Goals as goal

pub returns-clause-found : goal.returns-clause-found
returns-clause-found g c = found_by_paired _ c.args.self c.args.hash c.get_counted_by.result c.get_counted_by.ensures.found

pub returns-clause-counts : goal.returns-clause-counts
returns-clause-counts g c = counted_by_paired _ c.args.self c.args.hash _ _ c.get_counted_by.ensures.counts
