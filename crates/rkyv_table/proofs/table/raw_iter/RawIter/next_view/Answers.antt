use Rattle.std.proofs.Common.{List, subst, sym, ℕ}
use Rattle.std.specs.Borrow.{Bor}
use Rattle.std.specs.List.{All}
use Rattle.std.proofs.lemmas.List.Elements.{All-rest}
use Rattle.rkyv_base.specs.{Viewable}
use Rattle.rkyv_table.proofs.table.raw_iter.RawIter.next_view.Goals as goal

pub returns-clause-all_valid : goal.returns-clause-all_valid
returns-clause-all_valid g c =
    let s = g.T.HasSpec.spec in
    let before = c.args.self.now in
    let after = c.next.new.self in
    let e = c.in_ok-pos.ensures.steps in
    All-rest (Viewable s after.archive.now) c.in_ok-pos.pos after.positions before.positions e.takes
    (subst (λ (a : Bor (List ℕ)). All (Viewable s a.now) before.positions) (sym e.archive) c.requires)
