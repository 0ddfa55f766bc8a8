use Rattle.std.proofs.Common.{◌∙◌, sym, subst, List, ℕ}
use Rattle.rkyv_base.specs.{ModifiesOnly, StaysValid, Viewable}
use Rattle.rkyv_table.specs.{SealedBy}
use Rattle.rkyv_table.proofs.EachItem.{sealed_keeps, still_iter, turn_taken}
use Rattle.rkyv_table.proofs.table.raw_iter_seal.for_each.seal_in_turn.Goals as goal

pub loop-next-preserved : goal.loop-next-preserved
loop-next-preserved g c =
    let w = g.W.Word.word in
    let s = g.T.HasSpec.spec in
    let inv = c.loop-next.invariant in
    let q = c.in-Some.next in
    let stepped = c.next_pos.new.self in
    let after = c.seal_with.new.self in
    let takes = c.in-Some.ensures.takes w c.args.pos inv.iter in
    let viewable : Viewable s stepped.archive.now q = subst (λ (b : List ℕ). Viewable s b q) (sym c.in-Some.ensures.archive.bytes) takes.item.viewable in
    let k : ModifiesOnly stepped.archive.now q s.size after.archive.now × StaysValid s stepped.archive.now after.archive.now q =
    sealed_keeps (goal.F-post g) s c.args.write.now stepped.archive.now after.archive.now q c.requires.keeps viewable c.seal_with.ensures.written in
    record {
      reference = c.seal_with.ensures.stays.reference ∙ c.in-Some.ensures.archive.reference ∙ inv.reference;
      iter = still_iter w s c.args.pos q c.loop-next.rest stepped after takes c.in-Some.ensures.archive c.seal_with.ensures.stays k.0 k.1;
      turns = λ z rest. inv.turns z
          (turn_taken w s c.args.pos q c.loop-next.rest stepped after takes c.in-Some.ensures.archive c.seal_with.ensures.stays k.0 k.1 (SealedBy (goal.F-post g) c.args.write.now tt) z c.seal_with.ensures.written rest);
    }
