use Rattle.std.proofs.Common.{lit<}
use Rattle.rkyv_table.proofs.WrittenStep.{fresh}
use Rattle.test_table.proofs.tests.controls.one_item_is_placed.Goals as goal

pub place_one-bucket-requires-clause-wrapped : goal.place_one-bucket-requires-clause-wrapped
place_one-bucket-requires-clause-wrapped g c = (fresh 2 (lit< tt)).wrapped

pub place_from-other-requires-clause-wrapped : goal.place_from-other-requires-clause-wrapped
place_from-other-requires-clause-wrapped g c = (fresh 3 (lit< tt)).wrapped
