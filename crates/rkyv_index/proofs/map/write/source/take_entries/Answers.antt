use Rattle.std.proofs.Common.{arith, ◌≡◌, ◌++◌, ◌∷◌, [], refl, inl, inr}
use Rattle.std.proofs.lemmas.Grind.{common_steps}
use Rattle.std.proofs.lemmas.List.{length-map, length_push}
use Rattle.rkyv_index.specs.{pairs_of}
use Rattle.rkyv_index.proofs.EntrySteps.{entries_yield_more}
use Rattle.rkyv_table.proofs.PlacingSteps.{yields_more}
use Rattle.rkyv_index.proofs.map.write.source.take_entries.Goals as goal

pub returns-in_default : goal.returns-in_default
returns-in_default g c =
    let i = c.loop-count.invariant in
    let n = length-map {B = g.row.BK.Denot × g.row.BV.Denot} c.loop-count.entries.items (λ e. (e.key, e.value)) in
    let t = c.loop-count-test.true in
    ((pairs_of c.loop-count.entries.items, omega (arith, n, i.count), inl (omega arith, (_, (_, i.taken, c.in_default.ensures.steps)))), λ z. omega (arith, z, t))

pub loop-count-preserved : goal.loop-count-preserved
loop-count-preserved g c = grind (arith, common_steps, entries_yield_more, length_push)

pub returns-in-Some-next_item : goal.returns-in-Some-next_item
returns-in-Some-next_item g c =
    let i = c.loop-count.invariant in
    let e : c.loop-count.count ≡ c.args.len = omega (arith, c.loop-count.auto.count-end, c.loop-count-test.false) in
    let k = length-map {B = g.row.BK.Denot × g.row.BV.Denot} c.loop-count.entries.items (λ e. (e.key, e.value)) in
    let n = length_push (pairs_of c.loop-count.entries.items) c.in-Some-next_item.field-0 in
    ((pairs_of c.loop-count.entries.items ++ c.in-Some-next_item.field-0 ∷ [], omega (arith, n, k, i.count, e), inr (refl, (_, yields_more g.I.Iterator.next_gives _ _ _ (pairs_of c.loop-count.entries.items) _ i.taken c.in-Some-next_item.ensures.steps))), λ z. omega (arith, z))
