use Rattle.ffi_calls.proofs.Codes.{opens_codes}
use Rattle.ffi_calls.proofs.containers.open_container.Goals as goal

pub returns-in-Some-clause-opens : goal.returns-in-Some-clause-opens
returns-in-Some-clause-opens c = opens_codes c.args.codes c.args.bytes.now c.open_container_as.result c.in-Some.contents c.in-Some.ensures c.open_container_as.ensures.opens
