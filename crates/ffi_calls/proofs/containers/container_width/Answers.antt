use Rattle.std.proofs.Common.{inl, inr, refl}
use Rattle.ffi_calls.proofs.containers.container_width.Goals as goal

pub returns-in-Ok : goal.returns-in-Ok
returns-in-Ok c = inl (c.in-Ok.header, (c.in-Ok.ensures.ok c.in-Ok.header).0 refl, refl, c.is_wide.ensures)

pub returns-in-Err : goal.returns-in-Err
returns-in-Err c = inr (c.in-Err.error, (c.in-Err.ensures.err c.in-Err.error).0 refl, c.container_status.ensures, refl)
