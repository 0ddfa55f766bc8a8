use Rattle.std.proofs.Common.{◌∙◌, inr, refl, sym}
use Rattle.std.proofs.lemmas.Bool.{false≢true}
use Rattle.ffi_calls.proofs.Statuses.{container_status_above_0}
use Rattle.ffi_calls.proofs.containers.open_container_as.Goals as goal

pub returns-in-Ok-clause-opens : goal.returns-in-Ok-clause-opens
returns-in-Ok-clause-opens c contents a h = ((λ _. (c.in-Ok.ensures.opens contents a h).0 refl), (λ _. refl))

pub returns-in-Err-clause-status : goal.returns-in-Err-clause-status
returns-in-Err-clause-status c = inr (c.in-Err.error, (c.in-Err.ensures.err c.in-Err.error).0 refl, c.container_status.ensures, refl)

pub returns-in-Err-clause-opens : goal.returns-in-Err-clause-opens
returns-in-Err-clause-opens c contents a h =
    ((λ e. absurd (container_status_above_0 c.in-Err.error (sym c.container_status.ensures ∙ e))), (λ e. absurd (false≢true ((c.in-Err.ensures.opens contents a h).1 e))))
