use Rattle.std.proofs.Common.{◌≤◌, ◌-◌, ℕ}
use Rattle.std.specs.List.{range_with_len}
use Rattle.rkyv_base.specs.declared.errors.VerifyError.{VerifyError}
use Rattle.rkyv_table.specs.{AreValidAt, FirstFails}
use Rattle.rkyv_index.specs.{entry_at, indices_of}
use Rattle.rkyv_index.proofs.map.check.check_entries.Given as goal

-- the result for the remaining entries is that for all
abbrev pub invariant-loop-i : goal.invariant-loop-i
invariant-loop-i g l =
    let s = g.T.HasSpec.spec in
    let is = range_with_len l.i (l.len - l.i) in
    record {
      ordered : l.low ≤ l.begin;
      valid : (m : ℕ) → AreValidAt s (entry_at s.size l.begin) l.bytes l.begin is l.low m → AreValidAt s (entry_at s.size l.begin) l.bytes l.begin (indices_of l.len) l.lo m;
      failed : (e : VerifyError) → FirstFails s (entry_at s.size l.begin) l.bytes l.begin is l.low e → FirstFails s (entry_at s.size l.begin) l.bytes l.begin (indices_of l.len) l.lo e;
    }
