use Rattle.std.proofs.lemmas.Result.{err_from_is_err_and}
use Rattle.example_symbols.specs.{IsTable, ValidationFails}
use Rattle.example_symbols.proofs.table.check.Goals as goal

pub returns-clause-checked : goal.returns-clause-checked
unfolding IsTable
returns-clause-checked c = c.in_ok-access.ensures.root.0

pub returns-in_err-access-clause-checked : goal.returns-in_err-access-clause-checked
unfolding ValidationFails
returns-in_err-access-clause-checked c =
    let p = err_from_is_err_and c.from_residual.result c.from_residual.ensures.1 in
    rw (p.1, p.2) c.in_err-access.ensures.root

pub returns-in_err-access-clause-accepts : goal.returns-in_err-access-clause-accepts
unfolding IsTable
returns-in_err-access-clause-accepts c =
    let p = err_from_is_err_and c.from_residual.result c.from_residual.ensures.1 in
    rw p.1 c.in_err-access.ensures.accepts
