use Rattle.std.proofs.Common.{length}
use Rattle.rkyv_inspect.specs.{IsRegionList}
use Rattle.rkyv_inspect.proofs.regions.with_gaps.Given as goal

abbrev pub invariant-loop-field : goal.invariant-loop-field
invariant-loop-field l = IsRegionList (length l.bytes) l.list
