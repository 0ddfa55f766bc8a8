use Rattle.rkyv_base.specs.Lemmas.Text.{viewable_text}
use Rattle.rkyv_base.proofs.text.View+Text+W.as_str.Goals as goal
use Rattle.std.proofs.Common.{arith}
use Rattle.std.proofs.lemmas.Grind.{common_steps}

pub from_utf8_unchecked-requires : goal.from_utf8_unchecked-requires
from_utf8_unchecked-requires g c = grind (arith, common_steps, viewable_text)
