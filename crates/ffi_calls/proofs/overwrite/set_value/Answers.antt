use Rattle.std.proofs.Common.{subst}
use Rattle.ffi_calls.specs.{SetsIn}
use Rattle.ffi_calls.proofs.overwrite.set_value.Goals as goal

pub returns-clause-sets : goal.returns-clause-sets
returns-clause-sets c =
    subst (λ of. SetsIn of c.args.archive.now c.args.key c.args.value c.set_of.result c.set_of.new.archive) c.collection_at.ensures c.set_of.ensures.sets
