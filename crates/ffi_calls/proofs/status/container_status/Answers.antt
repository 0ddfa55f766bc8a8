use Rattle.std.proofs.Common.{◌∙◌, ap}
use Rattle.ffi_calls.proofs.Statuses.{explained_container_status}
use Rattle.ffi_calls.proofs.status.container_status.Goals as goal

pub returns : goal.returns
returns c = ap (λ r. r.status) c.explain_container_error.ensures ∙ explained_container_status c.args.error.now
