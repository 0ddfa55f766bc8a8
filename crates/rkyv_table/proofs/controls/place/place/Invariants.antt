use Rattle.std.proofs.Common.{take}
use Rattle.rkyv_table.specs.{AreWrittenControls}
use Rattle.rkyv_table.proofs.controls.place.place.Given as goal

abbrev pub invariant-loop-hash : goal.invariant-loop-hash
invariant-loop-hash g l = AreWrittenControls l.cap (take l.hash-index l.hashes) l.homes.items l.controls
