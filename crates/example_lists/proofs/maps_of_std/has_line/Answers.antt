use Rattle.std.proofs.Common.{Ok, ap}
use Rattle.example_lists.proofs.maps_of_std.has_line.Goals as goal

pub returns-clause-listed : goal.returns-clause-listed
returns-clause-listed c = λ lines is.
    let represents = c.written_sets_are_lists.ensures c.args.set.now lines is.bytes in
    ap Ok (c.members_found_are_listed.ensures c.of-lines.result _ _ _ lines.map.keys c.args.line c.contains.result
    c.of-lines.ensures.at c.in_ok-access.ensures.root.1 represents c.contains.ensures.first)
