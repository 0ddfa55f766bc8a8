use Rattle.std.proofs.Common.{ap, subst, sym}
use Rattle.std.specs.Int.{w8}
use Rattle.rkyv_base.specs.{Viewable, entry_spec, scalar_spec, signed, text_spec}
use Rattle.rkyv_index.specs.{index_spec}
use Rattle.test_index.proofs.tests.by_key.uppercase_of.Goals as goal

pub make_ascii_uppercase_of-requires : goal.make_ascii_uppercase_of-requires
make_ascii_uppercase_of-requires g c =
    let s = index_spec g.W.Word.word (entry_spec (scalar_spec (signed w8)) (text_spec g.W.Word.word)) in
    let at = c.in_ok-access_in.ensures.root.1 in
    record { map = subst (Viewable s c.args.bytes.now) (sym c.pos-root.ensures) (subst (λ b. Viewable s b c.in_ok-access_in.field-0.pos) (ap (λ a. a.now) at.0) c.in_ok-access_in.ensures.viewable) }
