use Rattle.std.proofs.Common.{arith}
use Rattle.std.proofs.lemmas.Grind.{common_steps}
use Rattle.rkyv_container.proofs.Checking.{err_from}
use Rattle.rkyv_container.proofs.Opening.{container_from}
use Rattle.rkyv_container.proofs.container.open_any.Goals as goal

pub returns-in_err-header : goal.returns-in_err-header
returns-in_err-header c = grind (arith, err_from)

pub returns : goal.returns
returns c = grind (arith, common_steps, container_from c.in_ok-header.header c.in_ok-header.archive.now c.args.bytes.now c.in_ok-header.ensures c.in_ok-check_archive.ensures)
