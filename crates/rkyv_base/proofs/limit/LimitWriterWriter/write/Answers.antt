use Rattle.std.proofs.Common.{arith}
use Rattle.std.proofs.lemmas.Grind.{common_steps}
use Rattle.rkyv_base.proofs.limit.LimitWriterWriter.write.Goals as goal

pub returns-then-bytes-left-clause-fault : goal.returns-then-bytes-left-clause-fault
returns-then-bytes-left-clause-fault g c = grind (arith, common_steps)

pub returns-in_err-pass_on-clause-faults : goal.returns-in_err-pass_on-clause-faults
returns-in_err-pass_on-clause-faults g c = grind (arith, common_steps)
