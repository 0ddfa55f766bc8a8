use Rattle.std.proofs.Common.{false}
use Rattle.ffi_calls.specs.{CountsIn}
use Rattle.ffi_calls.proofs.IndexFound.{of_same_map}
use Rattle.ffi_calls.proofs.misplaced.misplaced_in_map.Goals as goal

pub returns : goal.returns
returns g c =
    of_same_map (λ m. CountsIn m g.K.ElementEq.same g.K.KeyElement.key_calls false c.args.limit c.misplaced_up_to.result) g.W.Word.word g.K.HasSpec.spec g.V.HasSpec.spec _ _ _ _ c.map_of.ensures.bytes c.map_of.ensures.pos c.misplaced_up_to.ensures
