use Rattle.rkyv_base.specs.{RepresentsAs, written_as}
use Rattle.rkyv_base.specs.Lemmas.Pairs.{written_as-format}
use Rattle.rkyv_table.proofs.Passing.{tables_pass}
use Rattle.rkyv_table.proofs.table.laws.written.written_tables_pass.Goals as goal

pub returns : goal.returns
returns g c = λ load_factor.
    let s = g.U.Archived.HasSpec.spec in
    tables_pass g.W.Word.word g.met.W.Width.layout.kind s g.U.Archived.HasSpec.laws (RepresentsAs g.X.Lend.lent g.U.Archived.Represents.represents) (written_as g.X.Lend.lent g.U.Archive.format)
    (written_as-format g.X.Lend.lent s g.U.Archived.Represents.represents g.U.Archive.format g.met.U.Archive.laws) load_factor
