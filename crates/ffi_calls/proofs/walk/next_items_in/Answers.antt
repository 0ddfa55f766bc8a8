use Rattle.std.proofs.Common.{◌≡◌, ◌≤◌, arith, inl, inr, length, subst}
use Rattle.ffi_calls.specs.{StoresNextItems, map_in}
use Rattle.ffi_calls.proofs.Together.{all_stepped, none_stepped, one_stepped}
use Rattle.ffi_calls.proofs.walk.next_items_in.Goals as goal

pub loop-count-init : goal.loop-count-init
loop-count-init g c =
    none_stepped (map_in g.W.Word.word g.K.HasSpec.spec g.V.HasSpec.spec c.args.archive.now) g.K.ToAny.any g.V.ToAny.any c.args.from c.args.items.now

pub loop-count-preserved : goal.loop-count-preserved
loop-count-preserved g c =
    let m = map_in g.W.Word.word g.K.HasSpec.spec g.V.HasSpec.spec c.args.archive.now in
    let found = c.in-Some.ensures in
    one_stepped m g.K.ToAny.any g.V.ToAny.any c.args.from c.args.items.now c.loop-count.count c.loop-count.next c.in-Some.item c.loop-count.items found.0 c.loop-count-test.true c.loop-count.invariant found.1 found.2

pub returns-in-None : goal.returns-in-None
returns-in-None g c =
    let m = map_in g.W.Word.word g.K.HasSpec.spec g.V.HasSpec.spec c.args.archive.now in
    let few : c.loop-count.count ≤ length c.args.items.now = omega arith in
    all_stepped m g.K.ToAny.any g.V.ToAny.any c.args.from c.args.items.now c.loop-count.count c.loop-count.next c.loop-count.items few c.loop-count.invariant (inl c.in-None.ensures)

pub returns : goal.returns
returns g c =
    let m = map_in g.W.Word.word g.K.HasSpec.spec g.V.HasSpec.spec c.args.archive.now in
    let all : c.loop-count.count ≡ length c.args.items.now = omega arith in
    let few : c.loop-count.count ≤ length c.args.items.now = omega arith in
    let whole : c.loop-count.count ≡ length c.loop-count.items = omega (arith, c.loop-count.auto.items) in
    subst (λ n. StoresNextItems m g.K.ToAny.any g.V.ToAny.any c.args.from c.args.items.now n c.loop-count.items) whole (
    all_stepped m g.K.ToAny.any g.V.ToAny.any c.args.from c.args.items.now c.loop-count.count c.loop-count.next c.loop-count.items few c.loop-count.invariant (inr all)
    )
