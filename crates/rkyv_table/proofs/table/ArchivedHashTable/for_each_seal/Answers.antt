use Rattle.rkyv_table.specs.{SealedBy}
use Rattle.rkyv_table.proofs.EachInTurn.{each_once, items_kept}
use Rattle.rkyv_table.proofs.EachItem.{sealed_keeps}
use Rattle.rkyv_table.proofs.table.ArchivedHashTable.for_each_seal.Goals as goal

pub returns-clause-each : goal.returns-clause-each
returns-clause-each g c =
    let s = g.T.HasSpec.spec in
    each_once g.W.Word.word s g.T.HasSpec.laws c.args.pos (SealedBy (goal.F-post g) c.args.write tt)
    (λ b q d view one. sealed_keeps (goal.F-post g) s c.args.write b d q c.requires.write.keeps view one) c.args.archive.now _ c.requires.table c.seal_in_turn.ensures

pub returns-clause-kept : goal.returns-clause-kept
returns-clause-kept g c =
    let s = g.T.HasSpec.spec in
    items_kept g.W.Word.word s g.T.HasSpec.laws c.args.pos (SealedBy (goal.F-post g) c.args.write tt)
    (λ b q d view one. sealed_keeps (goal.F-post g) s c.args.write b d q c.requires.write.keeps view one) c.args.archive.now _ c.requires.table c.seal_in_turn.ensures

pub seal_in_turn-requires : goal.seal_in_turn-requires
seal_in_turn-requires g c = record { table = c.requires.table; callable = c.requires.write.callable; keeps = c.requires.write.keeps }
