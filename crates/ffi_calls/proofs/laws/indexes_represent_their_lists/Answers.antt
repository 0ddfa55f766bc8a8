use Rattle.ffi_calls.specs.{IsIndexOf}
use Rattle.ffi_calls.proofs.laws.indexes_represent_their_lists.Goals as goal

pub returns : goal.returns
unfolding IsIndexOf
returns g c = λ pairs b written. (written.0, written.1)
