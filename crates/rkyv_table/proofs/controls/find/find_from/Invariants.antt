use Rattle.std.proofs.Common.{◌≡◌, ℕ, ◌+◌, ◌-◌, ◌≤◌, Bool, eqb, true, length}
use Rattle.std.specs.List.{list_any}
use Rattle.rkyv_table.specs.{ComparesByBucket, IsFullBucket, count_after, strides, tag}
use Rattle.rkyv_table.proofs.Search.{ahead, found_along}
use Rattle.rkyv_table.proofs.Lookup.{end_index}
use Rattle.rkyv_table.proofs.controls.find.find_from.Given as goal

abbrev pub invariant-loop-next : goal.invariant-loop-next
invariant-loop-next g l = record {
  fewer : length (ahead l.next l.rest) ≤ length (strides l.hash l.cap);
  read : l.strides ≡ count_after l.initial.strides (length (strides l.hash l.cap) - length (ahead l.next l.rest));
  members : (p : ℕ) → list_any (eqb p) (ahead l.next l.rest) ≡ true → list_any (eqb p) (strides l.hash l.cap) ≡ true;
  same : (accept : ℕ → Bool) → ComparesByBucket (goal.F-post g l.cmp) (IsFullBucket l.cap l.controls) accept
      → found_along (g.G.GroupKind.kind) l.controls l.cap (tag l.hash) accept (strides l.hash l.cap)
      ≡ found_along (g.G.GroupKind.kind) l.controls l.cap (tag l.hash) accept (ahead l.next l.rest);
  counted : (accept : ℕ → Bool) → ComparesByBucket (goal.F-post g l.cmp) (IsFullBucket l.cap l.controls) accept
      → length (strides l.hash l.cap) - length (ahead l.next l.rest) + end_index (g.G.GroupKind.kind) l.controls l.cap (tag l.hash) accept (ahead l.next l.rest)
      ≡ end_index (g.G.GroupKind.kind) l.controls l.cap (tag l.hash) accept (strides l.hash l.cap);
}

abbrev pub decreases-loop-next : goal.decreases-loop-next
decreases-loop-next g l = length (ahead l.next l.rest)
