use Rattle.rkyv_table.proofs.WalkedHomes.{none_visits, walked_homes}
use Rattle.rkyv_table.proofs.table.laws.walk_visits_homes.Goals as goal

pub returns : goal.returns
returns c = record { written = walked_homes; empty = none_visits }
