use Rattle.ffi_calls.proofs.overwrite.set_kind.Goals as goal

pub returns-then-indexed-clause-keeps : goal.returns-then-indexed-clause-keeps
returns-then-indexed-clause-keeps g c = rw c.if-indexed.true (record { valid = c.set_indexed_in.ensures.kept; header = c.set_indexed_in.ensures.header })

pub returns-then-indexed-clause-sets : goal.returns-then-indexed-clause-sets
returns-then-indexed-clause-sets g c = rw c.if-indexed.true (record { sets = c.set_indexed_in.ensures.sets; listed = c.set_indexed_in.ensures.listed })

pub returns-else-indexed-clause-keeps : goal.returns-else-indexed-clause-keeps
returns-else-indexed-clause-keeps g c = rw c.if-indexed.false (record { valid = c.set_in.ensures.kept; header = c.set_in.ensures.header })

pub returns-else-indexed-clause-sets : goal.returns-else-indexed-clause-sets
returns-else-indexed-clause-sets g c = rw c.if-indexed.false (record { sets = c.set_in.ensures.sets; listed = c.set_in.ensures.listed })
