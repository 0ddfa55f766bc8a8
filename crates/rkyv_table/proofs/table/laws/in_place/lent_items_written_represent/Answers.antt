use Rattle.rkyv_base.specs.{RepresentsAs}
use Rattle.rkyv_table.proofs.NewItems.{items_written}
use Rattle.rkyv_table.proofs.table.laws.in_place.lent_items_written_represent.Goals as goal

pub returns : goal.returns
returns g c = λ b d p n hash pairs old new view of at_n sealed keeps one.
    items_written g.W.Word.word g.U.Archived.HasSpec.spec g.U.Archived.HasSpec.laws (RepresentsAs g.X.Lend.lent g.U.Archived.Represents.represents) (λ x. g.met.U.Archived.Represents.local (g.X.Lend.lent x))
    b d p n hash pairs old new view of at_n sealed keeps one
