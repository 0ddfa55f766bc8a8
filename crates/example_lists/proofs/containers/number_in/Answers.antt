use Rattle.std.proofs.Common.{Ok, ap, refl, ◌≡◌}
use Rattle.std.proofs.lemmas.Result.{IfOk-at_ok}
use Rattle.rkyv_container.proofs.Opening.{container_unique}
use Rattle.example_lists.proofs.containers.number_in.Goals as goal

pub returns-in_err-archive-clause-listed : goal.returns-in_err-archive-clause-listed
returns-in_err-archive-clause-listed c = λ archive list is archived.
    let opened = (c.in_err-archive.ensures.opens _ archive is).1 refl in absurd cc

pub returns-in_err-number_of-clause-listed : goal.returns-in_err-number_of-clause-listed
returns-in_err-number_of-clause-listed c = λ archive list is archived.
    let opened = c.in_ok-archive.ensures.ok in
    let same = (container_unique c.args.file.now opened.0 is.0 c.in_ok-archive.archive.now archive opened.1.1 is.1.1).1 in
    let listed = c.in_err-number_of.ensures.listed list (rw same archived) in
    absurd cc

pub returns-clause-listed : goal.returns-clause-listed
returns-clause-listed c = λ archive list is archived.
    let opened = c.in_ok-archive.ensures.ok in
    let same = (container_unique c.args.file.now opened.0 is.0 c.in_ok-archive.archive.now archive opened.1.1 is.1.1).1 in
    ap Ok (IfOk-at_ok (λ found. c.in_ok-number_of.field-0 ≡ found) (c.in_ok-number_of.ensures.listed list (rw same archived)) refl)
