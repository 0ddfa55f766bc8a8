use Rattle.std.proofs.Common.{◌+◌, ◌-◌, ◌≤◌, length}
use Rattle.rkyv_scan.specs.{AllBelow}
use Rattle.rkyv_table.specs.{full_from}
use Rattle.rkyv_table.proofs.ItemSteps.{IsPartlyChecked, marks_and_rest}
use Rattle.rkyv_table.proofs.table.verify.check_items.Given as goal

abbrev pub invariant-loop-base : goal.invariant-loop-base
invariant-loop-base g l = record {
  below : l.base ≤ l.cap;
  checked : IsPartlyChecked g.T.HasSpec.spec l.begin l.cap l.bytes l.controls l.lo (full_from l.controls l.cap l.base) l.low l.count;
}

abbrev pub decreases-loop-base : goal.decreases-loop-base
decreases-loop-base g l = l.cap - l.base

abbrev pub invariant-loop-j : goal.invariant-loop-j
invariant-loop-j g l = record {
  inside : l.base + g.G.GroupKind.kind.width ≤ l.cap;
  below : AllBelow g.G.GroupKind.kind.width (g.G.Mask.Marks.indices l.marks);
  checked : IsPartlyChecked g.T.HasSpec.spec l.begin l.cap l.bytes l.controls l.lo (marks_and_rest l.controls l.cap l.base g.G.GroupKind.kind.width (g.G.Mask.Marks.indices l.marks)) l.low l.count;
}

abbrev pub decreases-loop-j : goal.decreases-loop-j
decreases-loop-j g l = length (g.G.Mask.Marks.indices l.marks)

abbrev pub invariant-loop-bucket : goal.invariant-loop-bucket
invariant-loop-bucket g l = record {
  below : l.base ≤ l.cap;
  checked : IsPartlyChecked g.T.HasSpec.spec l.begin l.cap l.bytes l.controls l.lo (full_from l.controls l.cap l.bucket) l.low l.count;
}
