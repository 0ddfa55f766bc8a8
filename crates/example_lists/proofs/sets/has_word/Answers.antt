use Rattle.std.proofs.Common.{Ok, ap}
use Rattle.example_lists.proofs.sets.has_word.Goals as goal

pub returns-clause-listed : goal.returns-clause-listed
returns-clause-listed c = λ list is.
    ap Ok (c.members_found_are_listed.ensures c.of-words.result _ _ _ _ c.args.word c.contains.result
    c.of-words.ensures.at c.in_ok-access.ensures.root.1 is.represents c.contains.ensures.first)
