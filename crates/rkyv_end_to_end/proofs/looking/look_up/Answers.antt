use Rattle.std.proofs.Common.{◌∙◌, ap, subst, sym}
use Rattle.rkyv_scan.specs.{generic_kind}
use Rattle.rkyv_table.specs.{LooksUp, ReadsExactly}
use Rattle.rkyv_end_to_end.specs.{ReadsWithinBound}
use Rattle.rkyv_end_to_end.proofs.Reports.{looks_found, read_exactly, read_within_bound}
use Rattle.rkyv_end_to_end.proofs.looking.look_up.Goals as goal

pub returns-clause-looks : goal.returns-clause-looks
returns-clause-looks g c =
    let w = g.W.Word.word in
    let s = g.T.HasSpec.spec in
    let bytes = ap (λ v. v.archive.now) c.of-table.ensures.view ∙ ap (λ v. v.now) c.new.ensures.0 in
    let pos = ap (λ v. v.pos) c.of-table.ensures.view ∙ c.new.ensures.1 in
    let post = goal.F-post g c.args.cmp in
    let law = c.lookups_are_in_bytes.ensures c.args.cmp in
    subst (LooksUp post generic_kind w s c.args.bytes.now c.args.pos c.args.hash) (sym c.found_pos-found.ensures)
    (looks_found post law c.args.bytes.now c.args.pos c.of-table.result bytes pos c.args.hash c.get_counted.result c.get_counted.ensures.found)

pub returns-clause-reads : goal.returns-clause-reads
returns-clause-reads g c =
    let bytes = ap (λ v. v.archive.now) c.of-table.ensures.view ∙ ap (λ v. v.now) c.new.ensures.0 in
    let pos = ap (λ v. v.pos) c.of-table.ensures.view ∙ c.new.ensures.1 in
    subst (ReadsWithinBound g.W.Word.word c.args.bytes.now c.args.pos) (sym c.count.ensures)
    (read_within_bound c.args.bytes.now c.args.pos c.of-table.result bytes pos c.new-strides.result c.get_counted.new.strides c.new-strides.ensures c.get_counted.ensures.counts.bounded)

pub returns-clause-exact : goal.returns-clause-exact
returns-clause-exact g c =
    let bytes = ap (λ v. v.archive.now) c.of-table.ensures.view ∙ ap (λ v. v.now) c.new.ensures.0 in
    let pos = ap (λ v. v.pos) c.of-table.ensures.view ∙ c.new.ensures.1 in
    let post = goal.F-post g c.args.cmp in
    subst (ReadsExactly post generic_kind g.W.Word.word g.T.HasSpec.spec c.args.bytes.now c.args.pos c.args.hash) (sym c.count.ensures)
    (read_exactly post (c.lookups_are_in_bytes.ensures c.args.cmp) c.args.bytes.now c.args.pos c.of-table.result bytes pos c.args.hash c.new-strides.result c.get_counted.new.strides c.new-strides.ensures c.get_counted.ensures.counts)
