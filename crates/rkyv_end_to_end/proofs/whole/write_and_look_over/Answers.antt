use Rattle.std.proofs.Common.{ℕ, List, ◌≡◌, ◌∙◌, ap, arith, refl}
use Rattle.std.proofs.lemmas.Result.{err_from_is_err_and}
use Rattle.rkyv_base.specs.{end_of, vec_output}
use Rattle.rkyv_base.specs.declared.element.PartRange.{PartRange}
use Rattle.rkyv_table.specs.{len_at, table_in}
use Rattle.rkyv_end_to_end.specs.{encoding, list_of, pairs_of}
use Rattle.rkyv_end_to_end.proofs.Listing.{appended_sits, element_members, look_fails, width_members, written_found, written_never_fails}
use Rattle.rkyv_end_to_end.proofs.whole.write_and_look_over.Goals as goal

pub returns : goal.returns
returns g c =
    let items = encoding (element_members g.U.Archived.HasSpec g.U.Archived.Represents) g.U.Archive g.X.Lend in
    let input = pairs_of g.I.Iterator g.J.Iterator c.args.items c.args.hashes in
    let list = list_of (width_members g.W.Word g.W.Width) items input c.args.len c.args.load_factor in
    let o = vec_output c.args.serializer.now in
    let o' = vec_output c.write_list.new.serializer in
    let wrote = c.in_ok-at.ensures in
    let at = c.in_ok-at.at in
    let sits = appended_sits o o' wrote.2 refl wrote.3.1.0 in
    let valid = c.written_lists_represent.ensures c.args.load_factor wrote.1 (end_of o) at.end at.pos wrote.2 o'.bytes wrote.3.2 sits in
    written_found list (goal.F-post g c.args.cmp) c.args.hash o o' c.ranges.hash.fits c.lookups_find_the_first.ensures at.end at.pos wrote valid.0 valid.1 c.bytes-bytes.result.now c.bytes-bytes.ensures c.in_ok-report.report c.in_ok-report.ensures.2

pub returns-in_err-report : goal.returns-in_err-report
returns-in_err-report g c =
    let items = encoding (element_members g.U.Archived.HasSpec g.U.Archived.Represents) g.U.Archive g.X.Lend in
    let input = pairs_of g.I.Iterator g.J.Iterator c.args.items c.args.hashes in
    let list = list_of (width_members g.W.Word g.W.Width) items input c.args.len c.args.load_factor in
    let o = vec_output c.args.serializer.now in
    let o' = vec_output c.write_list.new.serializer in
    let wrote = c.in_ok-at.ensures in
    let at = c.in_ok-at.at in
    let sits = appended_sits o o' wrote.2 refl wrote.3.1.0 in
    let valid = c.written_lists_represent.ensures c.args.load_factor wrote.1 (end_of o) at.end at.pos wrote.2 o'.bytes wrote.3.2 sits in
    let range : PartRange = record { lo = c.pos-begin.result; hi = at.end } in
    let count : len_at g.W.Word.word c.bytes-bytes.result.now at.pos ≡ c.args.len =
    ap (λ (b : List ℕ). len_at g.W.Word.word b at.pos) c.bytes-bytes.ensures ∙ valid.0.table_represents.len ∙ wrote.3.0.1 in
    let p = err_from_is_err_and c.from_residual-in_err-report.result c.from_residual-in_err-report.ensures.1 in
    rw (p.1, p.2) (look_fails list o o' (table_in g.W.Word g.U.Archived.HasSpec c.bytes-bytes.result.now at.pos) at.end at.pos range wrote
    (written_never_fails g.W.Word.word g.met.W.Width.layout.kind g.U.Archived.HasSpec.spec g.U.Archived.HasSpec.laws o'.bytes c.bytes-bytes.result.now at.pos (end_of o) at.end valid.0.holds.passes c.bytes-bytes.ensures range (omega (arith, c.pos-begin.ensures)) (omega arith))
    count c.in_err-report.field-0.0 c.in_err-report.ensures)
