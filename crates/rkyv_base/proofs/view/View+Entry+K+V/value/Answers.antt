use Rattle.rkyv_base.specs.Lemmas.Entry.{viewable_value}
use Rattle.rkyv_base.proofs.view.View+Entry+K+V.value.Goals as goal
use Rattle.std.proofs.Common.{arith}
use Rattle.std.proofs.lemmas.Grind.{common_steps}

pub at-requires : goal.at-requires
at-requires g c = grind (arith, common_steps, viewable_value g.K.HasSpec.spec g.V.HasSpec.spec g.K.HasSpec.laws g.V.HasSpec.laws c.args.self.archive.now c.args.self.pos c.requires)

pub returns-clause-viewable : goal.returns-clause-viewable
returns-clause-viewable g c = grind (arith, common_steps, viewable_value g.K.HasSpec.spec g.V.HasSpec.spec g.K.HasSpec.laws g.V.HasSpec.laws c.args.self.archive.now c.args.self.pos c.requires)
