use Rattle.std.proofs.Common.{Ok, Some, None, ap, sym, ◌∙◌}
use Rattle.example_lists.proofs.maps_of_std.age_of.Goals as goal

pub returns-in-Some-clause-listed : goal.returns-in-Some-clause-listed
returns-in-Some-clause-listed c = λ map is. let found = c.in-Some.ensures in
    let represents = c.written_maps_are_lists.ensures c.args.table.now map is.bytes in
    ap Ok (ap Some (sym c.to_native.ensures)
    ∙ c.scalars_found_are_listed.ensures c.of-ages.result _ _ _ _ c.args.name (Some c.in-Some.age)
    c.of-ages.ensures.view c.in_ok-access.ensures.root.1 represents found.walked found.first)

pub returns-in-None-clause-listed : goal.returns-in-None-clause-listed
returns-in-None-clause-listed c = λ map is. let found = c.in-None.ensures in
    let represents = c.written_maps_are_lists.ensures c.args.table.now map is.bytes in
    ap Ok (c.scalars_found_are_listed.ensures c.of-ages.result _ _ _ _ c.args.name None
    c.of-ages.ensures.view c.in_ok-access.ensures.root.1 represents found.walked found.first)
