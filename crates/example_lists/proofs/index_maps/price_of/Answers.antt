use Rattle.std.proofs.Common.{Ok, Some, None, ap, sym, ◌∙◌}
use Rattle.example_lists.proofs.index_maps.price_of.Goals as goal

pub returns-in-Some-clause-listed : goal.returns-in-Some-clause-listed
returns-in-Some-clause-listed c = λ list is.
    let listed = c.scalars_found_are_listed.ensures c.of-prices.result _ _ _ _ c.args.name c.of-prices.ensures.view c.in_ok-access.ensures.root.1 is.represents in
    ap Ok (ap Some (sym c.to_native.ensures) ∙ listed.value (Some c.in-Some.price) c.in-Some.ensures.first)

pub returns-in-None-clause-listed : goal.returns-in-None-clause-listed
returns-in-None-clause-listed c = λ list is.
    let listed = c.scalars_found_are_listed.ensures c.of-prices.result _ _ _ _ c.args.name c.of-prices.ensures.view c.in_ok-access.ensures.root.1 is.represents in
    ap Ok (listed.value None c.in-None.ensures.first)
