use Rattle.rkyv_table.proofs.OneWay.{tables_one_way}
use Rattle.rkyv_table.proofs.ReadyOneWay.{written_as_one_way}
use Rattle.rkyv_table.proofs.table.laws.tables_are_written_one_way.Goals as goal
use Rattle.std.proofs.Common.{arith}
use Rattle.std.proofs.lemmas.Grind.{common_steps}

pub returns : goal.returns
returns g c = grind (arith, common_steps, tables_one_way, written_as_one_way)
