use Rattle.ffi_calls.proofs.iteration.IterationOperationAnyValueAnyItem.run.Goals as goal

pub returns-then-indexed : goal.returns-then-indexed
returns-then-indexed g c = rw c.if-indexed.true (record { stores = rw c.if-indexed.true c.items_in.ensures.stores; listed = rw c.if-indexed.true c.items_in.ensures.listed })
