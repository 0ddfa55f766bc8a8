use Rattle.std.proofs.Common.{Ok, Some, None, ap, sym, ◌∙◌}
use Rattle.std.specs.Int.{w32}
use Rattle.rkyv_base.specs.{unsigned}
use Rattle.rkyv_keys.specs.Lemmas.FirstPairs.{scalar_read}
use Rattle.example_lists.proofs.maps.spot_of.Goals as goal

pub returns-in-Some-clause-listed : goal.returns-in-Some-clause-listed
returns-in-Some-clause-listed c = λ list is. let found = c.in-Some.ensures in
    let first = c.values_found_are_listed.ensures c.of-spots.result _ _ _ _ c.args.name (Some c.in-Some.spot)
    c.of-spots.ensures.view c.in_ok-access.ensures.root.1 is.represents found.walked found.first in
    let x = scalar_read (unsigned w32) c.key.result _ _ c.to_native-x.result first.0.0 c.key.ensures.at c.to_native-x.ensures first.2.0 in
    let y = scalar_read (unsigned w32) c.value.result _ _ c.to_native-y.result first.0.1 c.value.ensures.at c.to_native-y.ensures first.2.1 in
    ap Ok (ap Some (ap (λ n. (n, c.to_native-y.result)) x ∙ ap (λ n. (first.0.0, n)) y) ∙ sym first.1)

pub returns-in-None-clause-listed : goal.returns-in-None-clause-listed
returns-in-None-clause-listed c = λ list is. let found = c.in-None.ensures in
    ap Ok (sym (c.values_found_are_listed.ensures c.of-spots.result _ _ _ _ c.args.name None
    c.of-spots.ensures.view c.in_ok-access.ensures.root.1 is.represents found.walked found.first))
