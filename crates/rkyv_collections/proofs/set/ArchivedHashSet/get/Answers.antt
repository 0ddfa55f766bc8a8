use Rattle.rkyv_collections.proofs.FoundThrough.{member_of_pair, no_member}
use Rattle.rkyv_collections.proofs.set.ArchivedHashSet.get.Goals as goal

pub returns : goal.returns
returns g c = member_of_pair c.in_ok-stored.ensures

pub returns-in_err-stored : goal.returns-in_err-stored
returns-in_err-stored g c = rw c.from_residual.ensures (no_member c.in_err-stored.ensures)
