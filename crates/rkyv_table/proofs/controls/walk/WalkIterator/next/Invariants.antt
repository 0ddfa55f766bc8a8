use Rattle.std.proofs.Common.{◌≡◌, ◌-◌}
use Rattle.rkyv_table.specs.{IsWalk, left}
use Rattle.rkyv_table.proofs.controls.walk.WalkIterator.next.Given as goal

abbrev pub invariant-loop-self : goal.invariant-loop-self
invariant-loop-self g l = record {
  is : IsWalk l.self-inside.controls.now l.self-inside.cap l.self-inside.base g.G.GroupKind.kind.width (g.G.Mask.Marks.indices l.self-inside.marks);
  value : left l.initial.self-inside.controls.now l.initial.self-inside.cap l.initial.self-inside.base g.G.GroupKind.kind.width (g.G.Mask.Marks.indices l.initial.self-inside.marks)
      ≡ left l.self-inside.controls.now l.self-inside.cap l.self-inside.base g.G.GroupKind.kind.width (g.G.Mask.Marks.indices l.self-inside.marks);
}

abbrev pub decreases-loop-self : goal.decreases-loop-self
decreases-loop-self g l = l.self-inside.cap - l.self-inside.base
