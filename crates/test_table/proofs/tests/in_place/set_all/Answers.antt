use Rattle.std.proofs.Common.{rules, ◌≡◌, ◌∙◌, sym, subst, List, ℕ}
use Rattle.rkyv_base.specs.{Viewable}
use Rattle.rkyv_table.specs.{IsItemAt, table_spec}
use Rattle.test_table.proofs.tests.in_place.set_all.Goals as goal

pub loop-next-preserved : goal.loop-next-preserved
loop-next-preserved g c =
    let w = g.W.Word.word in
    let s = g.N.HasSpec.spec in
    let t = c.in-Some.ensures.takes w c.args.pos c.loop-next.invariant.1 in
    let item : IsItemAt w s c.next_pos.new.self.archive.now c.args.pos t.bucket c.in-Some.next =
    subst (λ (b : List ℕ). IsItemAt w s b c.args.pos t.bucket c.in-Some.next) (sym c.in-Some.ensures.archive.bytes) t.item in (
      c.set_at.ensures.stays.reference ∙ c.in-Some.ensures.archive.reference ∙ c.loop-next.invariant.0,
      (c.set_at.ensures.kept w c.args.pos t.bucket t.iter item).1,
    )

pub returns : goal.returns
returns g c =
    let same : c.loop-next.rest.archive.now ≡ c.archive-1.given.0 = search rules in
    subst (λ (b : List ℕ). Viewable (table_spec g.W.Word.word g.N.HasSpec.spec) b c.args.pos) same c.loop-next.invariant.1.table
