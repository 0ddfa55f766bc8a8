use Rattle.rkyv_container.specs.{IsContainer, OpenFails}
use Rattle.rkyv_container.proofs.Checking.{err_exact}
use Rattle.rkyv_container.proofs.Opening.{container_excludes, open_unique, opens_exact}
use Rattle.rkyv_container.proofs.container.open.Goals as goal

pub returns-clause-opens : goal.returns-clause-opens
returns-clause-opens c =
    opens_exact c.open_any.result (λ x. x.0) (λ x. x.1.now) c.args.bytes.now c.open_any.ensures

pub returns-clause-err : goal.returns-clause-err
returns-clause-err c =
    let b = c.args.bytes.now in
    err_exact c.open_any.result (λ x. IsContainer x.0 x.1.now b) (OpenFails b)
    (λ x e s f. container_excludes b x.0 x.1.now e s f) (open_unique b) c.open_any.ensures
