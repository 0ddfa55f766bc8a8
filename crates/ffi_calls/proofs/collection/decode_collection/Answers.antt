use Rattle.std.proofs.Common.{refl}
use Rattle.ffi_calls.proofs.collection.decode_collection.Goals as goal

pub dispatch-requires : goal.dispatch-requires
dispatch-requires c κs = ((refl, tt), c.requires)
