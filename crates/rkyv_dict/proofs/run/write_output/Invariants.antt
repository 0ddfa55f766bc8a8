use Rattle.std.proofs.Common.{ℕ, ◌+◌, List, Option, None, Some, length, string_bytes}
use Rattle.std.specs.Option.{option_copied}
use Rattle.rkyv_dict.specs.{IsSound, Progress, parts_after, state_of}
use Rattle.rkyv_dict.proofs.run.write_output.Given as goal

-- the first lines are executed, and the others remain
abbrev pub invariant-loop-rest : goal.invariant-loop-rest
invariant-loop-rest g l = record {
  progress : Progress (g.W.Write.contents l.initial.writer) (g.W.Write.contents l.writer) l.script (string_bytes l.buffered) (parts_after 10 (option_copied l.rest)) (state_of l.dict);
  sound : IsSound (state_of l.dict);
}

abbrev pub left : Option (List ℕ) → ℕ
left None = 0
left (Some rest) = length rest + 1

abbrev pub decreases-loop-rest : goal.decreases-loop-rest
decreases-loop-rest g l = left (option_copied l.rest)
