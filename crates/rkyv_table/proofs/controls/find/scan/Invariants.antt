use Rattle.std.proofs.Common.{◌≡◌, ℕ, ◌*◌, Bool, List, take, drop, None}
use Rattle.std.specs.List.{find}
use Rattle.rkyv_table.specs.{ComparesByBucket, IsFullInStride}
use Rattle.rkyv_table.proofs.Groups.{candidates_in, empty_in}
use Rattle.rkyv_table.proofs.controls.find.scan.Given as goal

abbrev pub invariant-loop-i : goal.invariant-loop-i
invariant-loop-i g l = record {
  shown : (controls : List ℕ) → l.stride ≡ take 16 (drop l.pos controls) → l.empty ≡ empty_in controls l.pos (l.i * g.G.GroupKind.kind.width);
  none : (controls : List ℕ) → l.stride ≡ take 16 (drop l.pos controls) → (accept : ℕ → Bool) → ComparesByBucket (goal.F-post g l.cmp) (IsFullInStride l.stride l.pos l.cap) accept
      → find accept (candidates_in (g.G.GroupKind.kind) controls l.cap l.tag l.pos (l.i * g.G.GroupKind.kind.width)) ≡ None;
}
