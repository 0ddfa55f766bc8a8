use Rattle.std.proofs.Common.{arith, ◌≡◌, ◌+◌, ◌++◌, ◌∷◌, [], refl, ap, ◌∙◌, inr}
use Rattle.std.proofs.lemmas.List.{length_push}
use Rattle.rkyv_table.proofs.PlacingSteps.{placed_none, yields_more}
use Rattle.rkyv_table.proofs.table.write.take.take_pairs.Goals as goal

pub loop-count-init : goal.loop-count-init
loop-count-init g c = record {
  ready = c.requires.ready;
  taken = ([], refl, refl, rw (c.requires.fresh, c.requires.empty) (placed_none c.args.cap (let r = c.requires.room in omega arith)));
}

pub loop-count-preserved : goal.loop-count-preserved
loop-count-preserved g c =
    let i = c.loop-count.invariant.taken in
    record {
      ready = c.in-Some.ensures.keeps;
      taken = (i.0 ++ (c.in-Some.hash, c.in-Some.item) ∷ [], yields_more g.I.Iterator.next_gives _ _ _ i.0 _ i.1 c.in-Some.ensures.steps, length_push i.0 _ ∙ ap (λ n. n + 1) i.2, c.place_item.ensures i.0 i.3);
    }

pub returns-in-Some-next_item : goal.returns-in-Some-next_item
returns-in-Some-next_item g c =
    let i = c.loop-count.invariant.taken in
    let e : c.loop-count.count ≡ c.args.len = omega (arith, c.loop-count.auto.count-end, c.loop-count-test.false) in
    let n = length_push i.0 c.in-Some-next_item.field-0 in
    ((i.0 ++ c.in-Some-next_item.field-0 ∷ [], omega (arith, n, i.2, e), inr (refl, (_, yields_more g.I.Iterator.next_gives _ _ _ i.0 _ i.1 c.in-Some-next_item.ensures.steps))), λ z. omega (arith, z))
