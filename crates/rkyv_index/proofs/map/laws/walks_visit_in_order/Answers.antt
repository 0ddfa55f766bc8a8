use Rattle.rkyv_index.proofs.ListedWalks.{row_zip}
use Rattle.rkyv_index.proofs.map.laws.walks_visit_in_order.Goals as goal
use Rattle.std.proofs.Common.{arith}
use Rattle.std.proofs.lemmas.Grind.{common_steps}

pub returns : goal.returns
returns g c = grind (arith, common_steps, row_zip)
