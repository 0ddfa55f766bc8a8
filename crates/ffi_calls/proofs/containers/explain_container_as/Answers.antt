use Rattle.std.proofs.Common.{inr, refl}
use Rattle.ffi_calls.proofs.containers.explain_container_as.Goals as goal

pub returns-in-Err : goal.returns-in-Err
returns-in-Err c = inr (c.in-Err.error, (c.in-Err.ensures.err c.in-Err.error).0 refl, c.explain_container_error.ensures)
