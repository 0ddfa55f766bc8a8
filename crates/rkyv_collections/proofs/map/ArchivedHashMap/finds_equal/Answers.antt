use Rattle.std.proofs.Common.{arith}
use Rattle.rkyv_collections.proofs.StdComparing.{of_found}
use Rattle.rkyv_collections.proofs.map.ArchivedHashMap.finds_equal.Goals as goal

pub returns-in-Some : goal.returns-in-Some
returns-in-Some g c = grind (arith, of_found)
