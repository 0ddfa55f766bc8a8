use Rattle.test_ffi_calls.proofs.Opened.{opened_by_codes}
use Rattle.test_ffi_calls.proofs.tests.calls.handle_in.Goals as goal

pub decode-requires : goal.decode-requires
decode-requires c = opened_by_codes c.codes-codes.result c.args.archive.now c.open_archive.result c.open_archive.ensures.status c.if-open_archive-eq-DONE.true
