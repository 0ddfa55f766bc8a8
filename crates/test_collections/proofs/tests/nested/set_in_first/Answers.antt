use Rattle.std.proofs.Common.{subst, sym}
use Rattle.rkyv_base.specs.{Viewable}
use Rattle.rkyv_collections.specs.{map_spec}
use Rattle.test_collections.proofs.tests.nested.set_in_first.Goals as goal

pub next_with-requires : goal.next_with-requires
next_with-requires g c = λ b q same fits item.
    let inner = map_spec g.W.Word.word g.L.HasSpec.spec g.N.HasSpec.spec in
    subst (λ bytes. Viewable inner bytes q) (sym same) (item g.W.Word.word c.args.root c.values_over-maps.ensures.all.iter)
