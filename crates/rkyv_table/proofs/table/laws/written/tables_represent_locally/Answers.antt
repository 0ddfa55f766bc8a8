use Rattle.rkyv_base.specs.{RepresentsAs}
use Rattle.rkyv_table.proofs.TableLocal.{table_local}
use Rattle.rkyv_table.proofs.table.laws.written.tables_represent_locally.Goals as goal

pub returns : goal.returns
returns g c = λ load_factor.
    let represents = g.U.Archived.Represents.represents in
    table_local g.W.Word.word g.U.Archived.HasSpec.spec g.U.Archived.HasSpec.laws (RepresentsAs g.X.Lend.lent represents) (λ x. g.met.U.Archived.Represents.local (g.X.Lend.lent x)) load_factor
