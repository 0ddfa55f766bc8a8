use Rattle.rkyv_base.specs.Lemmas.Pairs.{written_as-format}
use Rattle.rkyv_table.specs.Lemmas.TableSound.{table_is_format}
use Rattle.rkyv_table.proofs.table.laws.written.written_tables_represent.Goals as goal
use Rattle.std.proofs.Common.{arith}
use Rattle.std.proofs.lemmas.Grind.{common_steps}

pub returns : goal.returns
returns g c = grind (arith, common_steps, table_is_format, written_as-format)
