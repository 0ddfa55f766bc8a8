use Rattle.rkyv_container.specs.{FirstFails, IsHeader, header_checks}
use Rattle.rkyv_container.proofs.Checking.{err_exact, first_unique, ok_exact, pass_excludes}
use Rattle.rkyv_container.proofs.HeaderBytes.{header_unique}
use Rattle.rkyv_container.proofs.HeaderChecks.{header_passes}
use Rattle.rkyv_container.proofs.header.Header.read.Goals as goal

pub returns-clause-ok : goal.returns-clause-ok
returns-clause-ok c =
    let b = c.args.bytes.now in
    ok_exact c.read_fields.result (λ h. IsHeader h b) (FirstFails (header_checks b))
    (λ h e s f. pass_excludes (header_checks b) e (header_passes h b s) f)
    (header_unique b) c.read_fields.ensures

pub returns-clause-err : goal.returns-clause-err
returns-clause-err c =
    let b = c.args.bytes.now in
    err_exact c.read_fields.result (λ h. IsHeader h b) (FirstFails (header_checks b))
    (λ h e s f. pass_excludes (header_checks b) e (header_passes h b s) f)
    (first_unique (header_checks b)) c.read_fields.ensures
