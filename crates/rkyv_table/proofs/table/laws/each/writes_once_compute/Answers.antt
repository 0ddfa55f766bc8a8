use Rattle.rkyv_table.proofs.EachItem.{once_computed}
use Rattle.rkyv_table.proofs.table.laws.each.writes_once_compute.Goals as goal

pub returns : goal.returns
returns g c = λ write f b d q computes once. once_computed g.N.HasSpec.spec g.N.Scalar.encoding g.met.N.Scalar.laws (goal.F-post g) write f b d q computes once
