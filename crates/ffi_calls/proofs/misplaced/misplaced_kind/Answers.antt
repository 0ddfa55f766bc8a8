use Rattle.std.proofs.Common.{subst, sym}
use Rattle.ffi_calls.specs.{CountsIn, root_in}
use Rattle.ffi_calls.proofs.misplaced.misplaced_kind.Goals as goal

pub returns-then-indexed : goal.returns-then-indexed
returns-then-indexed g c =
    subst (λ x. CountsIn (root_in x g.W.Word.word g.K.HasSpec.spec g.V.HasSpec.spec c.args.archive.now) g.K.ElementEq.same g.K.KeyElement.key_calls x c.args.limit c.misplaced_in_index.result) (sym c.if-indexed.true) c.misplaced_in_index.ensures

pub returns-else-indexed : goal.returns-else-indexed
returns-else-indexed g c =
    subst (λ x. CountsIn (root_in x g.W.Word.word g.K.HasSpec.spec g.V.HasSpec.spec c.args.archive.now) g.K.ElementEq.same g.K.KeyElement.key_calls x c.args.limit c.misplaced_in_map.result) (sym c.if-indexed.false) c.misplaced_in_map.ensures
