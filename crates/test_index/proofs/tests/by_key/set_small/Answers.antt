use Rattle.std.proofs.Common.{ap, subst, sym}
use Rattle.std.specs.Int.{w8}
use Rattle.rkyv_base.specs.{Viewable, entry_spec, scalar_spec, signed}
use Rattle.rkyv_index.specs.{index_spec}
use Rattle.test_index.proofs.tests.by_key.set_small.Goals as goal

pub set_value_of-requires : goal.set_value_of-requires
set_value_of-requires g c =
    let n = scalar_spec (signed w8) in
    let s = index_spec g.W.Word.word (entry_spec n n) in
    let at = c.in_ok-access_in.ensures.root.1 in
    record { map = subst (Viewable s c.args.bytes.now) (sym c.pos-root.ensures) (subst (λ b. Viewable s b c.in_ok-access_in.field-0.pos) (ap (λ a. a.now) at.0) c.in_ok-access_in.ensures.viewable) }
