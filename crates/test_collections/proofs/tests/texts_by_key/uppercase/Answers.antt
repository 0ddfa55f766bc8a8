use Rattle.std.proofs.Common.{ap, subst, sym}
use Rattle.std.specs.Int.{w32}
use Rattle.rkyv_base.specs.{Viewable, text_spec}
use Rattle.rkyv_collections.specs.{map_spec}
use Rattle.test_collections.proofs.tests.texts_by_key.uppercase.Goals as goal

pub make_ascii_uppercase_of-requires : goal.make_ascii_uppercase_of-requires
make_ascii_uppercase_of-requires c =
    let s = map_spec w32 (text_spec w32) (text_spec w32) in
    let root = c.in_ok-access.ensures.root.1 in
    record { map = subst (Viewable s c.args.bytes.now) (sym c.pos-root.ensures) (subst (λ b. Viewable s b c.in_ok-access.field-0.pos) (ap (λ a. a.now) root.0) c.in_ok-access.ensures.viewable) }
