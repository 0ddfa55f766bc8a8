use Rattle.std.proofs.Common.{◌∙◌, ◌≤◌, ℕ, inr, refl, subst, sym}
use Rattle.std.specs.Int.{byte_len}
use Rattle.std.proofs.lemmas.Result.{err_from_is_err_and}
use Rattle.rkyv_table.specs.{HeaderOverflows}
use Rattle.rkyv_end_to_end.specs.{encoding, list_format, list_of, pairs_of}
use Rattle.rkyv_end_to_end.proofs.ListSteps.{distance_fails, header_fails, list_fails, zeros_fail}
use Rattle.rkyv_end_to_end.proofs.Listing.{element_members, header_small, image_of, list_wrote, room_of, width_members}
use Rattle.rkyv_end_to_end.proofs.writing.write_list.Goals as goal

pub slice_bounds-scratch-end : goal.slice_bounds-scratch-end
slice_bounds-scratch-end g c =
    let layout = g.met.W.Width.layout in
    subst (λ (n : ℕ). n ≤ 24) (sym c.TABLE_SIZE.ensures) (header_small g.W.Word.word layout.kind g.W.Width.TABLE_SIZE g.W.Width.ALIGN layout.align_is layout.table_is)

pub slice_bounds-out-end : goal.slice_bounds-out-end
slice_bounds-out-end g c = sym (room_of c.TABLE_SIZE.result c.TABLE_SIZE.result _ refl (slice_bounds-scratch-end g c.before))

pub resolve_from_len-requires-clause-same : goal.resolve_from_len-requires-clause-same
resolve_from_len-requires-clause-same g c =
    let h = c.in_ok-resolver.ensures in
    (sym (h.3.2.len ∙ h.2.1), sym h.3.2.factor)

pub returns-in_err-resolver : goal.returns-in_err-resolver
returns-in_err-resolver g c =
    let items = encoding (element_members g.U.Archived.HasSpec g.U.Archived.Represents) g.U.Archive g.X.Lend in
    let input = pairs_of g.I.Iterator g.J.Iterator c.args.items c.args.hashes in
    let list = list_of (width_members g.W.Word g.W.Width) items input c.args.len c.args.load_factor in
    let p = err_from_is_err_and c.from_residual.result c.from_residual.ensures.1 in
    rw (p.1, p.2) (list_fails list (g.S.Writer.output c.args.serializer.now) (g.S.Writer.output c.serialize_from_iter.new.serializer) c.in_err-resolver.field-0.0 c.in_err-resolver.ensures)

pub returns-in_err-pos : goal.returns-in_err-pos
returns-in_err-pos g c =
    let items = encoding (element_members g.U.Archived.HasSpec g.U.Archived.Represents) g.U.Archive g.X.Lend in
    let input = pairs_of g.I.Iterator g.J.Iterator c.args.items c.args.hashes in
    let list = list_of (width_members g.W.Word g.W.Width) items input c.args.len c.args.load_factor in
    let f = list_format list in
    let h = c.in_ok-resolver.ensures in
    let fails = zeros_fail g.row.S-Fault.Denot g.W.Width.LIMIT (byte_len g.W.Word.word) f h.1 (g.S.Writer.output c.args.serializer.now) (g.S.Writer.output c.serialize_from_iter.new.serializer) (g.S.Writer.output c.align_for_in.new.serializer) (g.S.Writer.output c.align_for_in.new.serializer)
    h.3.0 c.in_ok-resolver.resolver h.3.1 h.3.2 h.3.3 c.in_err-pos.field-0.0 c.in_err-pos.ensures in
    let p = err_from_is_err_and c.from_residual-in_err-pos.result c.from_residual-in_err-pos.ensures.1 in
    rw (p.1, p.2) (inr (h.0, h.1, h.2, fails))

pub resolve_from_len-requires-clause-room : goal.resolve_from_len-requires-clause-room
resolve_from_len-requires-clause-room g c =
    let layout = g.met.W.Width.layout in
    room_of c.TABLE_SIZE.result g.W.Width.TABLE_SIZE _ c.TABLE_SIZE.ensures (header_small g.W.Word.word layout.kind g.W.Width.TABLE_SIZE g.W.Width.ALIGN layout.align_is layout.table_is)

pub returns-in_err-resolve_from_len : goal.returns-in_err-resolve_from_len
returns-in_err-resolve_from_len g c =
    let items = encoding (element_members g.U.Archived.HasSpec g.U.Archived.Represents) g.U.Archive g.X.Lend in
    let input = pairs_of g.I.Iterator g.J.Iterator c.args.items c.args.hashes in
    let list = list_of (width_members g.W.Word g.W.Width) items input c.args.len c.args.load_factor in
    let f = list_format list in
    let h = c.in_ok-resolver.ensures in
    let a = c.in_ok-pos.ensures in
    let overflow = subst (λ (n : ℕ). HeaderOverflows g.W.Word.word n c.in_ok-resolver.resolver.pos c.in_ok-pos.pos) (sym (h.3.2.len ∙ h.2.1)) c.in_err-resolve_from_len.ensures.0 in
    let fails = distance_fails g.row.S-Fault.Denot g.W.Width.LIMIT (byte_len g.W.Word.word) f h.1 (g.S.Writer.output c.args.serializer.now) (g.S.Writer.output c.serialize_from_iter.new.serializer) (g.S.Writer.output c.align_for_in.new.serializer) (g.S.Writer.output c.align_for_in.new.serializer)
    h.3.0 c.in_ok-resolver.resolver h.3.1 h.3.2 h.3.3 a.0 (rw a.1 at a.2) (subst (λ (n : ℕ). HeaderOverflows g.W.Word.word c.in_ok-resolver.resolver.len c.in_ok-resolver.resolver.pos n) a.1 overflow) in
    let p = err_from_is_err_and c.from_residual-in_err-resolve_from_len.result c.from_residual-in_err-resolve_from_len.ensures.1 in
    rw (p.1, p.2) (inr (h.0, h.1, h.2, fails))

pub returns : goal.returns
returns g c =
    let items = encoding (element_members g.U.Archived.HasSpec g.U.Archived.Represents) g.U.Archive g.X.Lend in
    let input = pairs_of g.I.Iterator g.J.Iterator c.args.items c.args.hashes in
    let list = list_of (width_members g.W.Word g.W.Width) items input c.args.len c.args.load_factor in
    let f = list_format list in
    let h = c.in_ok-resolver.ensures in
    let a = c.in_ok-pos.ensures in
    let d = c.in_ok-append_in.ensures in
    let image = image_of g.W.Word.word c.in_ok-resolver.resolver c.args.len c.args.load_factor c.in_ok-pos.pos _ c.resolve_from_len.new.out (h.3.2.len ∙ h.2.1) h.3.2.factor a.1 c.in_ok-resolve_from_len.ensures in
    let wrote = list_wrote (byte_len g.W.Word.word) f h.1 (g.S.Writer.output c.args.serializer.now) (g.S.Writer.output c.serialize_from_iter.new.serializer) (g.S.Writer.output c.align_for_in.new.serializer) (g.S.Writer.output c.append_in.new.serializer)
    h.3.0 c.in_ok-resolver.resolver c.resolve_from_len.new.out c.pos-end.result c.in_ok-pos.pos h.3.1 h.3.2 a.0 image d.0 c.pos-end.ensures a.1 in
    (h.0, h.1, wrote.0, (h.2, (wrote.1, d.1), wrote.2))

pub returns-in_err-append_in : goal.returns-in_err-append_in
returns-in_err-append_in g c =
    let items = encoding (element_members g.U.Archived.HasSpec g.U.Archived.Represents) g.U.Archive g.X.Lend in
    let input = pairs_of g.I.Iterator g.J.Iterator c.args.items c.args.hashes in
    let list = list_of (width_members g.W.Word g.W.Width) items input c.args.len c.args.load_factor in
    let f = list_format list in
    let h = c.in_ok-resolver.ensures in
    let a = c.in_ok-pos.ensures in
    let image = image_of g.W.Word.word c.in_ok-resolver.resolver c.args.len c.args.load_factor c.in_ok-pos.pos _ c.resolve_from_len.new.out (h.3.2.len ∙ h.2.1) h.3.2.factor a.1 c.in_ok-resolve_from_len.ensures in
    let fails = header_fails g.row.S-Fault.Denot g.W.Width.LIMIT (byte_len g.W.Word.word) f h.1 (g.S.Writer.output c.args.serializer.now) (g.S.Writer.output c.serialize_from_iter.new.serializer) (g.S.Writer.output c.align_for_in.new.serializer) (g.S.Writer.output c.append_in.new.serializer)
    h.3.0 c.in_ok-resolver.resolver h.3.1 h.3.2 h.3.3 c.resolve_from_len.new.out c.in_err-append_in.field-0.0 a.0 (rw a.1 at a.2) image c.in_err-append_in.ensures in
    let p = err_from_is_err_and c.from_residual-in_err-append_in.result c.from_residual-in_err-append_in.ensures.1 in
    rw (p.1, p.2) (inr (h.0, h.1, h.2, fails))
