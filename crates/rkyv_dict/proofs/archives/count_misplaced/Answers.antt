use Rattle.std.proofs.Common.{◌∙◌}
use Rattle.rkyv_base.proofs.AtViews.{read_at}
use Rattle.rkyv_collections.specs.{map_misplaced}
use Rattle.rkyv_dict.specs.{hash, keys_misplaced}
use Rattle.rkyv_dict.proofs.archives.count_misplaced.Goals as goal

pub returns : goal.returns
unfolding keys_misplaced
returns g c =
    let s = g.P.HasSpec.spec in
    c.misplaced.ensures
    ∙ read_at c.map_of.result.view _ _ c.map_of.ensures.at (map_misplaced g.W.Word.word s s (λ b q. hash (g.P.KeyElement.key_calls b q)) g.P.ElementEq.same)
