use Rattle.rkyv_base.specs.{RepresentsAs}
use Rattle.rkyv_table.proofs.WrittenTables.{table_written}
use Rattle.rkyv_table.proofs.table.laws.written.represented_lists_were_written.Goals as goal

pub returns : goal.returns
returns g c = λ load_factor.
    table_written g.W.Word.word g.U.Archived.HasSpec.spec (RepresentsAs g.X.Lend.lent g.U.Archived.Represents.represents) load_factor
