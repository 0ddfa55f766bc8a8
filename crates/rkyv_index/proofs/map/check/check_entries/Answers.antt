use Rattle.std.proofs.lemmas.Result.{err_from_is_err_and}
use Rattle.rkyv_table.proofs.Lists.{range_cons}
use Rattle.rkyv_index.proofs.Checking.{entry_aligned, entry_next}
use Rattle.rkyv_index.proofs.map.check.check_entries.Goals as goal
use Rattle.std.proofs.Common.{arith}
use Rattle.std.proofs.lemmas.Grind.{common_steps}

pub check-requires-clause-aligned : goal.check-requires-clause-aligned
check-requires-clause-aligned g c = grind (arith, common_steps, entry_aligned)

pub returns-in_err-rest-clause-fails : goal.returns-in_err-rest-clause-fails
returns-in_err-rest-clause-fails g c = grind (arith, common_steps, err_from_is_err_and, range_cons)

pub loop-i-preserved : goal.loop-i-preserved
loop-i-preserved g c = grind (arith, common_steps, range_cons, entry_next)
