use Rattle.std.proofs.Common.{arith, inr}
use Rattle.std.proofs.lemmas.Option.{slice_get-get_or}
use Rattle.std.proofs.lemmas.Result.{err_from_is_err_and}
use Rattle.ffi_calls.specs.{HasNoPair, HasPair, IsPairOf}
use Rattle.ffi_calls.proofs.Collected.{all_pushed, first_unfit, none_pushed, one_pushed}
use Rattle.ffi_calls.proofs.building.pairs_of.Goals as goal

pub loop-item-init : goal.loop-item-init
loop-item-init g c = none_pushed (IsPairOf g.A.FromAny g.B.FromAny) c.args.items.now c.in_ok-pairs.pairs c.in_ok-pairs.ensures

pub returns-in_err-pair : goal.returns-in_err-pair
returns-in_err-pair g c =
    let p = err_from_is_err_and c.from_residual-in_err-pair.result c.from_residual-in_err-pair.ensures.1 in
    let there = slice_get-get_or c.args.items.now c.loop-item.item-index _ c.loop-item-test.true in
    rw (p.1, p.2) (inr (first_unfit (HasPair g.A.FromAny g.B.FromAny) (IsPairOf g.A.FromAny g.B.FromAny) (λ x y is. is.0) (λ item. HasNoPair g.A.FromAny g.B.FromAny item _) c.args.items.now c.loop-item.item-index _ c.loop-item.pairs.items there c.loop-item.invariant.0 c.in_err-pair.ensures))

pub loop-item-preserved : goal.loop-item-preserved
loop-item-preserved g c =
    let pushed = c.push_reserved.ensures in
    one_pushed (IsPairOf g.A.FromAny g.B.FromAny) c.args.items.now c.loop-item.item-index _ c.loop-item.pairs c.push_reserved.new.self c.in_ok-pair.pair c.loop-item-test.true c.in_ok-pair.ensures pushed.items pushed.len pushed.capacity c.loop-item.invariant

pub returns : goal.returns
returns g c = all_pushed (IsPairOf g.A.FromAny g.B.FromAny) c.args.items.now c.loop-item.item-index c.loop-item.pairs (omega arith) c.loop-item.invariant
