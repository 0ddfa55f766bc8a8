use Rattle.std.proofs.Common.{◌≡◌, ℕ, List}
use Rattle.rkyv_base.specs.{entry_spec, value_pos}
use Rattle.rkyv_table.specs.{IsSealIter, SealedBy, WritesInTurn}
use Rattle.rkyv_table.proofs.EachItem.{positions_left}
use Rattle.rkyv_collections.proofs.map.in_place.for_each.seal_values.Given as goal

abbrev pub invariant-loop-key : goal.invariant-loop-key
invariant-loop-key g l =
    let w = g.W.Word.word in
    let s = entry_spec g.K.HasSpec.spec g.V.HasSpec.spec in
    let writes = λ (b : List ℕ) (q : ℕ) (c : List ℕ). SealedBy (goal.F-post g) l.write tt b (value_pos g.K.HasSpec.spec g.V.HasSpec.spec q) c in
    record {
      reference : l.rest.archive.ghost_name ≡ l.initial.rest.archive.ghost_name;
      iter : IsSealIter w s l.root l.rest;
      turns : (c : List ℕ) → WritesInTurn writes (positions_left w s l.root l.rest) l.rest.archive.now c
          → WritesInTurn writes (positions_left w s l.root l.initial.rest) l.initial.rest.archive.now c;
    }

abbrev pub decreases-loop-key : goal.decreases-loop-key
decreases-loop-key g l = l.rest.left
