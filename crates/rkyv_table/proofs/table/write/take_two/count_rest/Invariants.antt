use Rattle.std.proofs.Common.{◌≡◌, ◌+◌, List, length}
use Rattle.std.specs.Iterator.{Yields}
use Rattle.rkyv_table.proofs.table.write.take_two.count_rest.Given as goal

abbrev pub invariant-loop-count : goal.invariant-loop-count
invariant-loop-count g l = record {
  ready : g.I.Iterator.can_next l.others;
  yielded : (ys : List g.row.I-Item.Denot) × Yields g.I.Iterator.next_gives l.initial.others ys l.others × (l.count ≡ l.before + length ys);
}
