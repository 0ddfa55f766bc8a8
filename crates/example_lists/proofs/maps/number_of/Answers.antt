use Rattle.std.proofs.Common.{Ok, Some, None, ap, sym, ◌∙◌}
use Rattle.example_lists.proofs.maps.number_of.Goals as goal

pub returns-in-Some-clause-listed : goal.returns-in-Some-clause-listed
returns-in-Some-clause-listed c = λ list is. let found = c.in-Some.ensures in
    ap Ok (ap Some (sym c.to_native.ensures)
    ∙ c.scalars_found_are_listed.ensures c.of-numbers.result _ _ _ _ c.args.key (Some c.in-Some.number)
    c.of-numbers.ensures.view c.in_ok-access_in.ensures.root.1 is.represents found.walked found.first)

pub returns-in-None-clause-listed : goal.returns-in-None-clause-listed
returns-in-None-clause-listed c = λ list is. let found = c.in-None.ensures in
    ap Ok (c.scalars_found_are_listed.ensures c.of-numbers.result _ _ _ _ c.args.key None
    c.of-numbers.ensures.view c.in_ok-access_in.ensures.root.1 is.represents found.walked found.first)
