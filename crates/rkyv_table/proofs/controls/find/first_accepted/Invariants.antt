use Rattle.std.proofs.Common.{◌≡◌, ℕ, ◌+◌, ◌%◌, Bool, map, length, drop}
use Rattle.std.specs.List.{find}
use Rattle.rkyv_table.specs.{ComparesByBucket, IsMarked}
use Rattle.rkyv_table.proofs.controls.find.first_accepted.Given as goal

abbrev pub invariant-loop-j : goal.invariant-loop-j
invariant-loop-j g l = record {
  gone : (n : ℕ) × (g.M.Marks.indices l.rest ≡ drop n (g.M.Marks.indices l.fn.marks));
  same : (accept : ℕ → Bool) → ComparesByBucket (goal.F-post g l.cmp) (IsMarked l.at l.cap (g.M.Marks.indices l.fn.marks)) accept
      → find accept (map (λ j. (l.at + j) % l.cap) (g.M.Marks.indices l.fn.marks)) ≡ find accept (map (λ j. (l.at + j) % l.cap) (g.M.Marks.indices l.rest));
}

abbrev pub decreases-loop-j : goal.decreases-loop-j
decreases-loop-j g l = length (g.M.Marks.indices l.rest)
