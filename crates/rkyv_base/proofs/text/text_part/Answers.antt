use Rattle.rkyv_base.specs.Lemmas.Text.{inline_reads}
use Rattle.rkyv_base.proofs.text.text_part.Goals as goal
use Rattle.std.proofs.Common.{arith}
use Rattle.std.proofs.lemmas.Grind.{common_steps}

pub returns : goal.returns
returns g c = grind (arith, common_steps, inline_reads)
