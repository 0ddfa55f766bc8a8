use Rattle.std.proofs.Common.{◌≡◌, ◌++◌}
use Rattle.rkyv_table.specs.{item_positions}
use Rattle.rkyv_end_to_end.proofs.looking.walk.Given as goal

-- the positions already walked and those left are all positions
abbrev pub invariant-loop-item : goal.invariant-loop-item
invariant-loop-item g l = l.walked.items ++ l.item-iterator.positions ≡ item_positions g.W.Word.word g.T.HasSpec.spec.size l.bytes l.pos
