use Rattle.std.proofs.lemmas.Grind.{common_steps}
use Rattle.std.proofs.Common.{arith, ◌≡◌, ◌+◌, ◌++◌, ◌∷◌, [], ℕ, List, length, refl, ap, ◌∙◌, inl, inr, length-append, Option, Some}
use Rattle.std.specs.Iterator.{Yields}
use Rattle.std.proofs.lemmas.List.{length-map, length_push, map-append}
use Rattle.rkyv_table.specs.{Counted, CountedOn, hashes_of, items_of}
use Rattle.rkyv_table.proofs.PlacingSteps.{placed_none, yields_join, yields_more}
use Rattle.rkyv_table.proofs.table.write.take_two.take_two.Goals as goal

pub loop-count-init : goal.loop-count-init
loop-count-init g c = record {
  ready = c.requires.ready;
  taken = ([], refl, refl, refl, rw (c.requires.fresh, c.requires.empty) (placed_none c.args.cap (let r = c.requires.room in omega arith)));
}

pub loop-count-preserved : goal.loop-count-preserved
loop-count-preserved g c =
    let i = c.loop-count.invariant.taken in
    let mi = map-append (λ (y : ℕ × g.row.X.Denot). y.1) i.0 ((c.in-Some-next_item.hash, c.in-Some.item) ∷ []) in
    let mh = map-append (λ (y : ℕ × g.row.X.Denot). y.0) i.0 ((c.in-Some-next_item.hash, c.in-Some.item) ∷ []) in
    record {
      ready = (c.in-Some.ensures.keeps, c.in-Some-next_item.ensures.keeps);
      taken = (
        i.0 ++ (c.in-Some-next_item.hash, c.in-Some.item) ∷ [],
        rw mi (yields_more g.I.Iterator.next_gives _ _ _ (items_of i.0) _ i.1 c.in-Some.ensures.steps),
        rw mh (yields_more g.J.Iterator.next_gives _ _ _ (hashes_of i.0) _ i.2 c.in-Some-next_item.ensures.steps),
        length_push i.0 _ ∙ ap (λ n. n + 1) i.3,
        c.place_item.ensures i.0 i.4,
      );
    }

-- the number that is counted on after some items
counted_after : {S A : Type 0} (steps : S → Option A → S → Type 0) (len n : ℕ) (s t u : S) (xs : List A) (x : A) → Yields steps s xs t → steps t (Some x) u
    → CountedOn steps len u (length xs + 1) n → Counted steps len s n
counted_after steps len n s t u xs x y e (ys, m, inl d) =
    grind (arith, common_steps, length-append (xs ++ x ∷ []) ys, length_push xs x, yields_join steps s u d.1.1.0 (xs ++ x ∷ []) ys (yields_more steps s t u xs x y e) d.1.1.1, yields_more steps s t u xs x y e)
counted_after steps len n s t u xs x y e (ys, m, inr d) =
    grind (arith, common_steps, length-append (xs ++ x ∷ []) ys, length_push xs x, yields_join steps s u d.1.0 (xs ++ x ∷ []) ys (yields_more steps s t u xs x y e) d.1.1, yields_more steps s t u xs x y e)

items_count : {A : Type 0} (xs : List (ℕ × A)) → length (items_of xs) ≡ length xs
items_count {A = A} xs = length-map xs (λ (y : ℕ × A). y.1)

hashes_count : {A : Type 0} (xs : List (ℕ × A)) → length (hashes_of xs) ≡ length xs
hashes_count {A = A} xs = length-map xs (λ (y : ℕ × A). y.0)

pub returns-then-count_of_items-len : goal.returns-then-count_of_items-len
returns-then-count_of_items-len g c =
    let i = c.loop-count.invariant.taken in
    let n1 : c.loop-count.count + 1 ≡ length (items_of i.0) + 1 = (let n = items_count i.0 in omega (arith, i.3)) in
    let n0 = hashes_count i.0 in
    let k = counted_after g.I.Iterator.next_gives c.args.len c.count_rest-count_of_items.result _ _ _ (items_of i.0) c.in-Some.item i.1 c.in-Some.ensures.steps (rw n1 at c.count_rest-count_of_items.ensures) in
    inr (rw c.if-count_of_items-len.true at k, ((hashes_of i.0, omega (arith, n0, i.3), inl (omega (arith, c.loop-count-test.true), (_, (_, i.2, c.in_default-next_item.ensures.steps)))), λ z. omega (arith, z, c.loop-count-test.true)))

pub returns-in_default-next_item : goal.returns-in_default-next_item
returns-in_default-next_item g c =
    let i = c.loop-count.invariant.taken in
    let n1 : c.loop-count.count + 1 ≡ length (items_of i.0) + 1 = (let n = items_count i.0 in omega (arith, i.3)) in
    let k = counted_after g.I.Iterator.next_gives c.args.len c.count_rest-count_of_items.result _ _ _ (items_of i.0) c.in-Some.item i.1 c.in-Some.ensures.steps (rw n1 at c.count_rest-count_of_items.ensures) in
    inl (k, c.if-count_of_items-len.false)

pub returns-in-Some-next_item-2 : goal.returns-in-Some-next_item-2
returns-in-Some-next_item-2 g c =
    let i = c.loop-count.invariant.taken in
    let e : c.loop-count.count ≡ c.args.len = omega (arith, c.loop-count.auto.count-end, c.loop-count-test.false) in
    let n = items_count i.0 in
    let m = length_push (items_of i.0) c.in-Some-next_item-2.field-0 in
    inl ((items_of i.0 ++ c.in-Some-next_item-2.field-0 ∷ [], omega (arith, m, n, i.3, e), inr (refl, (_, yields_more g.I.Iterator.next_gives _ _ _ (items_of i.0) _ i.1 c.in-Some-next_item-2.ensures.steps))), λ z. omega (arith, z))

pub returns-in-Some-next_item-3 : goal.returns-in-Some-next_item-3
returns-in-Some-next_item-3 g c =
    let i = c.loop-count.invariant.taken in
    let e : c.loop-count.count ≡ c.args.len = omega (arith, c.loop-count.auto.count-end, c.loop-count-test.false) in
    let n1 = items_count i.0 in
    let n0 = hashes_count i.0 in
    let m = length_push (hashes_of i.0) c.in-Some-next_item-3.field-0 in
    inr (
      (items_of i.0, omega (arith, n1, i.3, e), inl (omega arith, (_, (_, i.1, c.in-None.ensures.steps)))),
      ((hashes_of i.0 ++ c.in-Some-next_item-3.field-0 ∷ [], omega (arith, m, n0, i.3, e), inr (refl, (_, yields_more g.J.Iterator.next_gives _ _ _ (hashes_of i.0) _ i.2 c.in-Some-next_item-3.ensures.steps))), λ z. omega (arith, z)),
    )

pub returns-in_default : goal.returns-in_default
returns-in_default g c = grind (arith, common_steps)
