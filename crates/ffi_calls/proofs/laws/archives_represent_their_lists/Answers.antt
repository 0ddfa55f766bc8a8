use Rattle.ffi_calls.specs.{IsArchiveOf}
use Rattle.ffi_calls.proofs.laws.archives_represent_their_lists.Goals as goal

pub returns : goal.returns
unfolding IsArchiveOf
returns g c = λ pairs b written. (written.0, written.1)
