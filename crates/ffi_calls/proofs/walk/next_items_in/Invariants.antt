use Rattle.ffi_calls.specs.{map_in}
use Rattle.ffi_calls.proofs.Together.{Stepped}
use Rattle.ffi_calls.proofs.walk.next_items_in.Given as goal

-- the items that are stored are the next ones
abbrev pub invariant-loop-count : goal.invariant-loop-count
invariant-loop-count g l =
    Stepped (map_in g.W.Word.word g.K.HasSpec.spec g.V.HasSpec.spec l.archive) g.K.ToAny.any g.V.ToAny.any l.from l.initial.items l.count l.next l.items
