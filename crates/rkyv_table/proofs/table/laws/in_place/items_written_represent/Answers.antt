use Rattle.rkyv_table.proofs.NewItems.{items_written}
use Rattle.rkyv_table.proofs.table.laws.in_place.items_written_represent.Goals as goal

pub returns : goal.returns
returns g c = λ b d p n hash pairs old new view of at_n sealed keeps one.
    items_written g.W.Word.word g.T.HasSpec.spec g.T.HasSpec.laws g.T.Represents.represents g.met.T.Represents.local b d p n hash pairs old new view of at_n sealed keeps one
