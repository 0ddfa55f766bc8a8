use Rattle.std.proofs.Common.{ap, subst, sym}
use Rattle.std.specs.Int.{w32}
use Rattle.rkyv_base.specs.{Viewable, entry_spec, scalar_spec, text_spec, unsigned}
use Rattle.rkyv_index.specs.{index_spec}
use Rattle.test_index.proofs.tests.by_key.set_price.Goals as goal

pub set_value_of-requires : goal.set_value_of-requires
set_value_of-requires c =
    let s = index_spec w32 (entry_spec (text_spec w32) (scalar_spec (unsigned w32))) in
    let at = c.in_ok-access.ensures.root.1 in
    record { map = subst (Viewable s c.args.archive.now) (sym c.pos-root.ensures) (subst (λ b. Viewable s b c.in_ok-access.field-0.pos) (ap (λ a. a.now) at.0) c.in_ok-access.ensures.viewable) }
