use Rattle.std.proofs.Common.{arith}
use Rattle.std.proofs.lemmas.Grind.{common_steps}
use Rattle.rkyv_base.proofs.view.View+Entry+K+V.key.Goals as goal

pub at-requires : goal.at-requires
at-requires g c = grind (arith, common_steps)

pub returns-clause-viewable : goal.returns-clause-viewable
returns-clause-viewable g c = grind (arith, common_steps)
