use Rattle.std.proofs.Common.{arith}
use Rattle.rkyv_container.proofs.Checking.{err_from}
use Rattle.rkyv_container.proofs.Opening.{container_from, contents_from}
use Rattle.rkyv_container.proofs.container.open_expected.Goals as goal

pub returns-in_err-header : goal.returns-in_err-header
returns-in_err-header c = grind (arith, err_from)

pub returns : goal.returns
returns c =
    let h = c.in_ok-header.header in (
      h,
      (
        contents_from c.args.expected h.contents c.in_ok-check_contents.ensures,
        container_from h c.in_ok-header.archive.now c.args.bytes.now c.in_ok-header.ensures
            c.in_ok-check_archive.ensures,
      ),
    )
