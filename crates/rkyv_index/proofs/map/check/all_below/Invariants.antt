use Rattle.std.proofs.Common.{◌≡◌, true}
use Rattle.rkyv_index.specs.{AreBelow}
use Rattle.rkyv_index.proofs.map.check.all_below.Given as goal

-- the result is `true` only if the indices that were read are below the length
abbrev pub invariant-loop-i : goal.invariant-loop-i
invariant-loop-i g l = l.below ≡ true → AreBelow g.W.Word.word l.bytes l.begin l.i l.len
