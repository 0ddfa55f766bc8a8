use Rattle.std.proofs.Common.{[], refl, arith}
use Rattle.std.proofs.lemmas.Grind.{common_steps}
use Rattle.rkyv_scan.specs.{mask_indices}
use Rattle.rkyv_table.proofs.RawSteps.{end_left, end_positions}
use Rattle.rkyv_table.proofs.table.raw_iter.RawIter.empty.Goals as goal

pub invariant_of-result-2 : goal.invariant_of-result-2
invariant_of-result-2 g c = grind (arith, common_steps, end_left)

pub returns-clause-positions : goal.returns-clause-positions
returns-clause-positions g c = end_positions 0 0 0 [] 0 (mask_indices 8 7 8 0) refl
