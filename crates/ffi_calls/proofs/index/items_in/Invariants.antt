use Rattle.ffi_calls.specs.{index_in}
use Rattle.ffi_calls.proofs.IndexPairs.{Stored}
use Rattle.ffi_calls.proofs.index.items_in.Given as goal

-- the first items are those from the index `from` on, and the others are unchanged
abbrev pub invariant-loop-count : goal.invariant-loop-count
invariant-loop-count g l =
    Stored (index_in g.W.Word.word g.K.HasSpec.spec g.V.HasSpec.spec l.archive) g.K.ToAny.any g.V.ToAny.any l.from l.initial.items l.count l.items
