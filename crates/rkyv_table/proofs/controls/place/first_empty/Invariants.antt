use Rattle.std.proofs.Common.{◌≡◌, ◌*◌, None}
use Rattle.std.specs.List.{find, range_with_len}
use Rattle.rkyv_table.specs.{is_empty_at}
use Rattle.rkyv_table.proofs.controls.place.first_empty.Given as goal

abbrev pub invariant-loop-i : goal.invariant-loop-i
invariant-loop-i g l = find (is_empty_at l.controls) (range_with_len l.pos (l.i * g.G.GroupKind.kind.width)) ≡ None
