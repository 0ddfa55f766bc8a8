use Rattle.rkyv_index.proofs.FromIndex.{key_of_full}
use Rattle.rkyv_index.proofs.set.ArchivedIndexSet.get_full.Goals as goal

pub returns : goal.returns
returns g c = key_of_full c.in_ok-index.ensures (c.in_ok-index.ensures.walked.0, c.in_ok-index.ensures.walked.1.0) (λ index at. at)

pub returns-in_err-index : goal.returns-in_err-index
returns-in_err-index g c = rw c.from_residual.ensures (key_of_full c.in_err-index.ensures tt (λ index at. at))
