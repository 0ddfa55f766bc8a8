use Rattle.std.proofs.Common.{◌∙◌}
use Rattle.rkyv_table.proofs.Walks.{walk_none}
use Rattle.rkyv_table.proofs.controls.walk.Walk.empty.Goals as goal

pub returns : goal.returns
returns g c = c.new.ensures ∙ walk_none _
