use Rattle.std.proofs.Common.{◌≡◌, ℕ, List}
use Rattle.rkyv_table.specs.{IsSealIter, SealedBy, WritesInTurn}
use Rattle.rkyv_table.proofs.EachItem.{positions_left}
use Rattle.rkyv_table.proofs.table.raw_iter_seal.for_each.seal_in_turn.Given as goal

abbrev pub invariant-loop-next : goal.invariant-loop-next
invariant-loop-next g l =
    let w = g.W.Word.word in
    let s = g.T.HasSpec.spec in
    let writes = SealedBy (goal.F-post g) l.write tt in
    record {
      reference : l.rest.archive.ghost_name ≡ l.initial.rest.archive.ghost_name;
      iter : IsSealIter w s l.pos l.rest;
      turns : (c : List ℕ) → WritesInTurn writes (positions_left w s l.pos l.rest) l.rest.archive.now c
          → WritesInTurn writes (positions_left w s l.pos l.initial.rest) l.initial.rest.archive.now c;
    }

abbrev pub decreases-loop-next : goal.decreases-loop-next
decreases-loop-next g l = l.rest.left
