use Rattle.rkyv_base.proofs.Sealing.{entry_kept, key_in_front}
use Rattle.rkyv_base.proofs.seal.ArchiveSeal.split_value.Goals as goal
use Rattle.std.proofs.Common.{arith}
use Rattle.std.proofs.lemmas.Grind.{common_steps}

pub new-requires : goal.new-requires
new-requires g c = grind (arith, common_steps, key_in_front g.K.HasSpec.spec g.V.HasSpec.spec g.K.HasSpec.laws g.V.HasSpec.laws c.args.self.archive.now c.args.entry_pos c.requires)

pub returns-clause-viewable : goal.returns-clause-viewable
returns-clause-viewable g c = grind (arith, common_steps, key_in_front g.K.HasSpec.spec g.V.HasSpec.spec g.K.HasSpec.laws g.V.HasSpec.laws c.args.self.archive.now c.args.entry_pos c.requires)

pub returns-clause-kept : goal.returns-clause-kept
returns-clause-kept g c =
    λ d. entry_kept g.K.HasSpec.spec g.V.HasSpec.spec g.K.HasSpec.laws g.V.HasSpec.laws c.args.self.archive.now d c.args.entry_pos
