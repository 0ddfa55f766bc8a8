use Rattle.std.proofs.Common.{◌<◌, ◌≤◌, arith, length}
use Rattle.ffi_calls.proofs.Lookups.{all_found, none_found, one_found}
use Rattle.ffi_calls.proofs.lookup.find_keys.Goals as goal

pub loop-count-init : goal.loop-count-init
loop-count-init g c = none_found _ _ _

pub loop-count-preserved : goal.loop-count-preserved
loop-count-preserved g c =
    let small : c.loop-count.count < length c.args.lookups.now = omega (arith, c.loop-count-test.true) in
    one_found _ _ _ _ _ _ _ small c.loop-count.invariant c.look_up.ensures

pub returns : goal.returns
returns g c =
    let all : length c.args.lookups.now ≤ c.loop-count.count = omega (arith, c.loop-count-test.false) in
    all_found _ _ _ _ _ all c.loop-count.invariant
