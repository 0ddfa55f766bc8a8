use Rattle.std.proofs.Common.{arith}
use Rattle.std.proofs.lemmas.Grind.{common_steps}
use Rattle.rkyv_index.proofs.ValueWrites.{pair_position}
use Rattle.rkyv_index.proofs.map.ArchivedIndexMap.pair_pos_in.Goals as goal

pub returns-clause-at : goal.returns-clause-at
returns-clause-at g c =
    let is = pair_position g.W.Word.word g.met.W.Width.layout.kind g.K.HasSpec.spec g.V.HasSpec.spec g.K.HasSpec.laws g.V.HasSpec.laws _ _ c.requires.map c.args.index c.requires.below in
    grind (arith, common_steps, is)
