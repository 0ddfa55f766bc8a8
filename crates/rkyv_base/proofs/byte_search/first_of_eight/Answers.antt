use Rattle.std.proofs.Common.{arith}
use Rattle.std.proofs.lemmas.Grind.{common_steps}
use Rattle.rkyv_base.proofs.FirstMark.{some_marked}
use Rattle.rkyv_base.proofs.byte_search.first_of_eight.Goals as goal

pub returns-else-marks-eq0 : goal.returns-else-marks-eq0
returns-else-marks-eq0 g c = grind (arith, common_steps, some_marked)
