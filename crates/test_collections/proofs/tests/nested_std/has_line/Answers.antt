use Rattle.std.proofs.Common.{Ok, Some, None, ap, sym, ◌∙◌, ◌==◌}
use Rattle.std.specs.List.{list_any}
use Rattle.std.specs.Option.{option_map}
use Rattle.test_collections.proofs.tests.nested_std.has_line.Goals as goal

pub returns-in-Some : goal.returns-in-Some
returns-in-Some c = λ cities is.
    let found = c.in-Some.ensures in
    let represents = c.nested_maps_are_lists.ensures.root c.args.table.now cities is.bytes in
    let inner = c.nested_lookups_find_listed.ensures.root c.of-cities.result _ _ _ _ c.args.city (Some c.in-Some.lines) c.of-cities.ensures.view c.in_ok-access.ensures.root.1 represents found.walked found.first in
    let at = c.of.ensures.at in
    let listed = c.lookups_find_listed.ensures c.of.result (7, 8) inner.0.map.keys c.args.line c.contains.result (rw (ap (λ a. a.now) at.0, at.1) inner.2) c.contains.ensures.first in
    ap Ok (ap Some listed
    ∙ sym (ap (option_map (λ s. list_any (λ other. c.args.line == other) s.map.keys)) inner.1))

pub returns-in-None : goal.returns-in-None
returns-in-None c = λ cities is.
    let found = c.in-None.ensures in
    let represents = c.nested_maps_are_lists.ensures.root c.args.table.now cities is.bytes in
    let none = c.nested_lookups_find_listed.ensures.root c.of-cities.result _ _ _ _ c.args.city None c.of-cities.ensures.view c.in_ok-access.ensures.root.1 represents found.walked found.first in
    ap Ok (sym (ap (option_map (λ s. list_any (λ other. c.args.line == other) s.map.keys)) none))
