use Rattle.std.proofs.Common.{Ok, Some, None, ap, sym, ◌∙◌, ◌==◌}
use Rattle.std.specs.Option.{option_and_then}
use Rattle.rkyv_keys.specs.{first_value}
use Rattle.test_collections.proofs.tests.nested_std.season_fare.Goals as goal

pub returns-in-Some : goal.returns-in-Some
returns-in-Some c = λ seasons is.
    let found = c.in-Some.ensures in
    let represents = c.nested_maps_are_lists.ensures.root c.args.table.now seasons is.bytes in
    let inner = c.nested_lookups_find_listed.ensures.root c.of-seasons.result _ _ _ _ c.args.season (Some c.in-Some.pair) c.of-seasons.ensures.view c.in_ok-access.ensures.root.1 represents found.walked found.first in
    let at = c.value.ensures.at in
    ap Ok (c.fare_in.ensures inner.0.1 (rw (c.of.ensures.view, at.0, at.1) inner.2.1)
    ∙ sym (ap (option_and_then (λ pair. first_value (λ other. c.args.line == other) pair.1.map.entries)) inner.1))

pub returns-in-None : goal.returns-in-None
returns-in-None c = λ seasons is.
    let found = c.in-None.ensures in
    let represents = c.nested_maps_are_lists.ensures.root c.args.table.now seasons is.bytes in
    let none = c.nested_lookups_find_listed.ensures.root c.of-seasons.result _ _ _ _ c.args.season None c.of-seasons.ensures.view c.in_ok-access.ensures.root.1 represents found.walked found.first in
    ap Ok (sym (ap (option_and_then (λ pair. first_value (λ other. c.args.line == other) pair.1.map.entries)) none))
