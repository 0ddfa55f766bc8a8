use Rattle.std.proofs.Common.{Some, None, ap, refl, sym, ◌∙◌}
use Rattle.rkyv_keys.specs.{text_bytes}
use Rattle.example_lists.proofs.sets.name_at.Goals as goal

pub returns-in-Some-clause-listed : goal.returns-in-Some-clause-listed
returns-in-Some-clause-listed c = λ list is.
    let name = c.items_at_are_listed.ensures c.of-names.result _ _ _ _ _ c.args.index (Some c.in-Some.name)
    c.of-names.ensures.at c.in_ok-access.ensures.root.1 is.represents c.in-Some.ensures in
    (Some c.as_str.result, refl, ap Some (c.as_str.ensures ∙ name.2) ∙ ap text_bytes (sym name.1))

pub returns-in-None-clause-listed : goal.returns-in-None-clause-listed
returns-in-None-clause-listed c = λ list is.
    let none = c.items_at_are_listed.ensures c.of-names.result _ _ _ _ _ c.args.index None
    c.of-names.ensures.at c.in_ok-access.ensures.root.1 is.represents c.in-None.ensures in
    (None, refl, ap text_bytes (sym none))

pub returns-in_err-access-clause-listed : goal.returns-in_err-access-clause-listed
returns-in_err-access-clause-listed c = λ list is.
    let accepted = c.in_err-access.ensures.accepts is.accepted in absurd cc
