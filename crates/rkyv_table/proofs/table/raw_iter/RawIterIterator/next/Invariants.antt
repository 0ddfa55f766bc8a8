use Rattle.std.proofs.Common.{◌≡◌, ◌-◌, length}
use Rattle.rkyv_scan.specs.{mask_indices}
use Rattle.rkyv_table.specs.{IsRawIter, positions_left}
use Rattle.rkyv_table.proofs.table.raw_iter.RawIterIterator.next.Given as goal

abbrev pub invariant-loop-self : goal.invariant-loop-self
invariant-loop-self g l = record {
  is : IsRawIter l.self-inside.buckets_end l.self-inside.size l.self-inside.count l.self-inside.controls.now l.self-inside.base (mask_indices 8 7 8 l.self-inside.marks.bits);
  archive : l.self-inside.archive ≡ l.initial.self-inside.archive;
  value : positions_left l.initial.self-inside.buckets_end l.initial.self-inside.size l.initial.self-inside.count l.initial.self-inside.controls.now l.initial.self-inside.base (mask_indices 8 7 8 l.initial.self-inside.marks.bits)
      ≡ positions_left l.self-inside.buckets_end l.self-inside.size l.self-inside.count l.self-inside.controls.now l.self-inside.base (mask_indices 8 7 8 l.self-inside.marks.bits);
}

abbrev pub decreases-loop-self : goal.decreases-loop-self
decreases-loop-self g l = length l.self-inside.controls.now - l.self-inside.base
