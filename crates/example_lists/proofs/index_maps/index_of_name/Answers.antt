use Rattle.std.proofs.Common.{Ok, ap}
use Rattle.example_lists.proofs.index_maps.index_of_name.Goals as goal

pub returns-clause-listed : goal.returns-clause-listed
returns-clause-listed c = λ list is.
    let listed = c.scalars_found_are_listed.ensures c.of-prices.result _ _ _ _ c.args.name c.of-prices.ensures.view c.in_ok-access.ensures.root.1 is.represents in
    ap Ok (listed.index c.get_index_of.result c.get_index_of.ensures.first)
