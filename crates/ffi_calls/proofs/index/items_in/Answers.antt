use Rattle.std.proofs.Common.{◌≡◌, ◌∙◌, ◌+◌, ◌-◌, ◌<◌, ap, arith, length, min, subst}
use Rattle.ffi_calls.specs.{IsIndexItem, fx_pairs, index_in, pair_count}
use Rattle.ffi_calls.proofs.IndexFound.{of_same_map}
use Rattle.ffi_calls.proofs.IndexPairs.{Stored, none_stored, one_stored, stores_listed}
use Rattle.ffi_calls.proofs.index.items_in.Goals as goal

pub loop-count-init : goal.loop-count-init
loop-count-init g c =
    none_stored (index_in g.W.Word.word g.K.HasSpec.spec g.V.HasSpec.spec c.args.archive.now) g.K.ToAny.any g.V.ToAny.any c.args.from c.args.items.now

pub loop-count-preserved : goal.loop-count-preserved
loop-count-preserved g c =
    let m = index_in g.W.Word.word g.K.HasSpec.spec g.V.HasSpec.spec c.args.archive.now in
    let n = c.loop-count.count in
    let there = of_same_map (λ x. IsIndexItem x g.K.ToAny.any g.V.ToAny.any (c.args.from + n) c.unwrap.result) g.W.Word.word g.K.HasSpec.spec g.V.HasSpec.spec _ _ _ _ c.index_of-map.ensures.bytes c.index_of-map.ensures.pos (rw c.unwrap.ensures at c.item_of.ensures).1 in
    let small : n < length c.args.items.now = omega (arith, c.loop-count-test.true, c.min-number.ensures) in
    one_stored m g.K.ToAny.any g.V.ToAny.any c.args.from c.args.items.now n c.loop-count.items c.unwrap.result small c.loop-count.invariant there

pub returns-clause-stores : goal.returns-clause-stores
returns-clause-stores g c =
    let m = index_in g.W.Word.word g.K.HasSpec.spec g.V.HasSpec.spec c.args.archive.now in
    let len = of_same_map (λ x. c.len.result ≡ pair_count x) g.W.Word.word g.K.HasSpec.spec g.V.HasSpec.spec _ _ _ _ c.index_of-map.ensures.bytes c.index_of-map.ensures.pos c.len.ensures in
    let number : c.min-number.result ≡ min (length c.args.items.now) (pair_count m - c.args.from) = c.min-number.ensures ∙ ap (min (length c.args.items.now)) (c.saturating_sub.ensures ∙ ap (λ n. n - c.args.from) len) in
    let all : c.loop-count.count ≡ c.min-number.result = omega (arith, c.loop-count-test.false, c.loop-count.auto.count-end) in
    let stored = subst (λ n. Stored m g.K.ToAny.any g.V.ToAny.any c.args.from c.args.items.now n c.loop-count.items) all c.loop-count.invariant in
    record { number = number; items = stored.items; rest = stored.rest }

pub returns-clause-listed : goal.returns-clause-listed
returns-clause-listed g c =
    let m = index_in g.W.Word.word g.K.HasSpec.spec g.V.HasSpec.spec c.args.archive.now in
    let native = fx_pairs g.K.Represents.represents g.V.Represents.represents g.K.KeyElement.key_calls in
    stores_listed m native g.K.ToAny.any g.V.ToAny.any g.K.StoredKey.is_of g.V.StoredValue.is_of g.met.K.StoredKey.agrees g.met.V.StoredValue.agrees c.args.from c.args.items.now c.min-number.result c.loop-count.items (returns-clause-stores g c)
