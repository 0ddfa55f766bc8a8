use Rattle.std.proofs.Common.{true}
use Rattle.ffi_calls.specs.{CountsIn}
use Rattle.ffi_calls.proofs.IndexFound.{of_same_map}
use Rattle.ffi_calls.proofs.misplaced.misplaced_in_index.Goals as goal

pub returns : goal.returns
returns g c =
    let same = g.K.ElementEq.same in
    let calls = g.K.KeyElement.key_calls in
    of_same_map (λ m. CountsIn m same calls true c.args.limit c.misplaced_up_to.result) g.W.Word.word g.K.HasSpec.spec g.V.HasSpec.spec _ _ _ _ c.index_of.ensures.bytes c.index_of.ensures.pos c.misplaced_up_to.ensures
