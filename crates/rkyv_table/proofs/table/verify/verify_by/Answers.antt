use Rattle.std.proofs.Common.{FitsSigned, inl, inr, rules}
use Rattle.std.specs.Int.{w128}
use Rattle.std.proofs.lemmas.Result.{err_from_is_err_and}
use Rattle.rkyv_table.specs.Lemmas.TableLaws.{fails_of_numbers}
use Rattle.rkyv_table.proofs.Headers.{begin_is}
use Rattle.rkyv_table.proofs.table.verify.verify_by.Goals as goal

pub returns-in_err-begin : goal.returns-in_err-begin
returns-in_err-begin g c =
    let w = g.W.Word.word in
    let s = g.T.HasSpec.spec in
    let b = c.args.bytes.now in
    let h = c.read_header-header.ensures in
    let fits : FitsSigned w128 c.decode_begin-decoded_begin.result = search rules in
    let decoded_is = begin_is w s.size b c.args.pos c.read_header-header.result.distance c.decode_begin-decoded_begin.result c.read_header-header.result.cap c.size-size.result fits
    h.distance h.cap c.size-size.ensures c.decode_begin-decoded_begin.ensures in
    let f = rw (c.part_size.ensures, c.size-size.ensures, c.align-align.ensures) at c.in_err-begin.ensures in
    let p = err_from_is_err_and c.from_residual.result c.from_residual.ensures.1 in
    rw (p.1, p.2) (fails_of_numbers s b decoded_is h.cap h.len (inr (inl (c.if-len-cap.false, f))))

pub returns-in_err-end : goal.returns-in_err-end
returns-in_err-end g c =
    let s = g.T.HasSpec.spec in
    let b = c.args.bytes.now in
    let h = c.read_header-header.ensures in
    let decoded_is = begin_is g.W.Word.word s.size b c.args.pos c.read_header-header.result.distance c.decode_begin-decoded_begin.result c.read_header-header.result.cap c.size-size.result (search rules)
    h.distance h.cap c.size-size.ensures c.decode_begin-decoded_begin.ensures in
    let part = rw (c.part_size.ensures, c.size-size.ensures, c.align-align.ensures) at c.in_ok-begin.ensures in
    let p = err_from_is_err_and c.from_residual-in_err-end.result c.from_residual-in_err-end.ensures.1 in
    rw (p.1, p.2) (fails_of_numbers s b decoded_is h.cap h.len (inr (inr (c.if-len-cap.false, c.in_ok-begin.begin, part, c.in_err-end.ensures.fails))))
