use Rattle.std.proofs.Common.{eqb, refl}
use Rattle.std.proofs.lemmas.Bool.{eq-eqb}
use Rattle.rkyv_table.specs.{probed}
use Rattle.rkyv_table.proofs.FirstFree.{free_probed}
use Rattle.rkyv_table.proofs.Lists.{member_contains}
use Rattle.rkyv_table.proofs.controls.laws.buckets_are_probed.Goals as goal

pub returns : goal.returns
returns c = λ hash cap bucket below. member_contains bucket (probed hash cap) (free_probed hash cap (eqb bucket) bucket below (eq-eqb bucket bucket refl))
