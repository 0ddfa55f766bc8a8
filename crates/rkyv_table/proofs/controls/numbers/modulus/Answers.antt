use Rattle.rkyv_table.proofs.Modulus.{modulus_is}
use Rattle.rkyv_table.proofs.controls.numbers.modulus.Goals as goal
use Rattle.std.proofs.Common.{arith}
use Rattle.std.proofs.lemmas.Grind.{common_steps}

pub returns : goal.returns
returns c = grind (arith, common_steps, modulus_is)
