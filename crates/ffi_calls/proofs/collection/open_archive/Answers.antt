use Rattle.ffi_calls.proofs.Codes.{opened_by_codes}
use Rattle.ffi_calls.proofs.collection.open_archive.Goals as goal

pub returns-clause-status : goal.returns-clause-status
returns-clause-status c = opened_by_codes c.args.codes c.args.archive.now c.explain_archive.result c.explain_archive.ensures.explains
