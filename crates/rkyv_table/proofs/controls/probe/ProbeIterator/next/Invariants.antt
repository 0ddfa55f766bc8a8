use Rattle.std.proofs.Common.{◌≡◌, ◌-◌, ◌/◌, ◌<◌}
use Rattle.rkyv_table.specs.{IsProbe, strides_from}
use Rattle.rkyv_table.proofs.controls.probe.ProbeIterator.next.Given as goal

abbrev pub invariant-loop-self : goal.invariant-loop-self
invariant-loop-self l = record {
  is : IsProbe l.self-inside.cap l.self-inside.start l.self-inside.pos l.self-inside.step;
  begun : 0 < l.self-inside.step;
  cap : l.self-inside.cap ≡ l.initial.self-inside.cap;
  same : strides_from l.initial.self-inside.cap l.initial.self-inside.start (l.initial.self-inside.step / 16) ≡ strides_from l.self-inside.cap l.self-inside.start (l.self-inside.step / 16);
}

abbrev pub decreases-loop-self : goal.decreases-loop-self
decreases-loop-self l = l.modulus - l.self-inside.step
