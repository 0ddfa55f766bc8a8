use Rattle.rkyv_container.specs.{IsContainerOf, OpenAsFails}
use Rattle.rkyv_container.proofs.Checking.{err_exact}
use Rattle.rkyv_container.proofs.Opening.{container_of_excludes, open_as_unique, opens_as_exact}
use Rattle.rkyv_container.proofs.container.open_as.Goals as goal

pub returns-clause-opens : goal.returns-clause-opens
returns-clause-opens c =
    opens_as_exact c.open_expected.result (λ x. x.now) c.args.expected c.args.bytes.now
    c.open_expected.ensures

pub returns-clause-err : goal.returns-clause-err
returns-clause-err c =
    let b = c.args.bytes.now in
    let x = c.args.expected in
    err_exact c.open_expected.result (λ r. IsContainerOf x r.now b) (OpenAsFails x b)
    (λ r e s f. container_of_excludes x b r.now e s f) (open_as_unique x b)
    c.open_expected.ensures
