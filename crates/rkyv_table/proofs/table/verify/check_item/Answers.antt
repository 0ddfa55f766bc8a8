use Rattle.rkyv_table.specs.Lemmas.TableLaws.{bucket_aligned}
use Rattle.rkyv_table.proofs.table.verify.check_item.Goals as goal
use Rattle.std.proofs.Common.{arith}
use Rattle.std.proofs.lemmas.Grind.{common_steps}

pub check-requires-clause-aligned : goal.check-requires-clause-aligned
check-requires-clause-aligned g c = grind (arith, common_steps, bucket_aligned)
