use Rattle.std.proofs.Common.{ap, inl}
use Rattle.ffi_calls.proofs.archives.explain_root.Goals as goal

pub returns-in-Ok : goal.returns-in-Ok
returns-in-Ok g c = record { explains = inl (c.in-Ok.ensures.root.0, c.explained.ensures); accepts = λ valid. ap (λ r. r.status) c.explained.ensures }
