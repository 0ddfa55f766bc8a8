use Rattle.rkyv_scan.specs.{generic_kind}
use Rattle.rkyv_table.proofs.FoundItems.{pos_of_item}
use Rattle.rkyv_table.proofs.table.ArchivedHashTable.get_pos_with.Goals as goal

pub returns : goal.returns
returns g c = rw c.found_pos.ensures (pos_of_item (goal.F-post g c.args.cmp) c.args.self c.args.hash generic_kind c.get_with.result c.get_with.ensures)
