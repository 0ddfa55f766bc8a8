use Rattle.rkyv_table.proofs.Reciprocals.{quotient_below, rest_below, rest_is, rest_less}
use Rattle.rkyv_table.proofs.controls.reciprocal.Reciprocal.remainder.Goals as goal
use Rattle.std.proofs.Common.{arith}
use Rattle.std.proofs.lemmas.Grind.{common_steps}

pub overflow_sub-rest : goal.overflow_sub-rest
overflow_sub-rest c = grind (arith, common_steps, quotient_below)

pub returns-then-rest-self : goal.returns-then-rest-self
returns-then-rest-self c = grind (arith, common_steps, quotient_below, rest_is)

pub returns-else-rest-self : goal.returns-else-rest-self
returns-else-rest-self c = grind (arith, common_steps, quotient_below, rest_below, rest_less)
