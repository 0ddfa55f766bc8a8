use Rattle.rkyv_base.specs.{RepresentsAs}
use Rattle.rkyv_table.proofs.FirstItem.{lookup_finds_first}
use Rattle.rkyv_table.proofs.table.laws.lookups_find_the_first.Goals as goal

pub returns : goal.returns
returns g c =
    lookup_finds_first g.W.Word.word g.U.Archived.HasSpec.spec (RepresentsAs g.X.Lend.lent g.U.Archived.Represents.represents)
