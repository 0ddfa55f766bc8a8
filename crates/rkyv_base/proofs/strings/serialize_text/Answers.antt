use Rattle.std.proofs.Common.{arith}
use Rattle.std.proofs.lemmas.Grind.{common_steps}
use Rattle.rkyv_base.proofs.strings.serialize_text.Goals as goal

pub returns-then-text-TEXT_SIZE : goal.returns-then-text-TEXT_SIZE
returns-then-text-TEXT_SIZE g c = grind (arith, common_steps)
