use Rattle.std.proofs.Common.{Ok, Some, None, ap, sym, ◌∙◌, ◌==◌}
use Rattle.std.specs.Option.{option_and_then}
use Rattle.rkyv_keys.specs.{first_value}
use Rattle.test_collections.proofs.tests.nested_std.fare_of.Goals as goal

pub returns-in-Some : goal.returns-in-Some
returns-in-Some c = λ cities is.
    let found = c.in-Some.ensures in
    let represents = c.nested_maps_are_lists.ensures.root c.args.table.now cities is.bytes in
    let inner = c.nested_lookups_find_listed.ensures.root c.of-cities.result _ _ _ _ c.args.city (Some c.in-Some.fares) c.of-cities.ensures.view c.in_ok-access.ensures.root.1 represents found.walked found.first in
    ap Ok (c.fare_in.ensures inner.0 (rw c.of.ensures.view inner.2)
    ∙ sym (ap (option_and_then (λ m. first_value (λ other. c.args.line == other) m.map.entries)) inner.1))

pub returns-in-None : goal.returns-in-None
returns-in-None c = λ cities is.
    let found = c.in-None.ensures in
    let represents = c.nested_maps_are_lists.ensures.root c.args.table.now cities is.bytes in
    let none = c.nested_lookups_find_listed.ensures.root c.of-cities.result _ _ _ _ c.args.city None c.of-cities.ensures.view c.in_ok-access.ensures.root.1 represents found.walked found.first in
    ap Ok (sym (ap (option_and_then (λ m. first_value (λ other. c.args.line == other) m.map.entries)) none))
