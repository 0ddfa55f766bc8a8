use Rattle.std.proofs.Common.{Ok, ap}
use Rattle.example_lists.proofs.sets.index_of_id.Goals as goal

pub returns-clause-listed : goal.returns-clause-listed
returns-clause-listed c = λ list is.
    let listed = c.members_found_are_listed.ensures c.of-ids.result _ _ _ _ c.args.id c.of-ids.ensures.at c.in_ok-access.ensures.root.1 is.represents in
    ap Ok (listed.index c.get_index_of.result c.get_index_of.ensures.first)
