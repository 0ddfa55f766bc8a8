use Rattle.std.proofs.Common.{arith}
use Rattle.std.proofs.lemmas.List.{take-replicate}
use Rattle.std.proofs.lemmas.Grind.{common_steps}
use Rattle.rkyv_table.proofs.table.write.serialize.serialize_nonempty.Goals as goal

pub split_at_mut-controls-requires : goal.split_at_mut-controls-requires
split_at_mut-controls-requires g c = grind (arith, common_steps)

pub place_all-requires-clause-fresh : goal.place_all-requires-clause-fresh
place_all-requires-clause-fresh g c = grind (arith, take-replicate)

pub write_table-requires-clause-resolvers : goal.write_table-requires-clause-resolvers
write_table-requires-clause-resolvers g c = grind (arith, common_steps)

pub write_table-requires-clause-room : goal.write_table-requires-clause-room
write_table-requires-clause-room g c = grind (arith, common_steps)
