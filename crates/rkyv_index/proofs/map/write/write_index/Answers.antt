use Rattle.std.proofs.Common.{arith, inr}
use Rattle.std.proofs.lemmas.Grind.{common_steps}
use Rattle.std.proofs.lemmas.Result.{err_from_is_err_and}
use Rattle.rkyv_index.proofs.IndexSteps.{index_wrote, indices_fail, parts_fail, row_fails, zeros_fail}
use Rattle.rkyv_index.proofs.RowSteps.{parts_count}
use Rattle.rkyv_index.proofs.map.write.write_index.Goals as goal

pub returns-in_err-table : goal.returns-in_err-table
returns-in_err-table g c = grind (arith, common_steps, err_from_is_err_and, indices_fail)

pub returns-in_err-serialize_row : goal.returns-in_err-serialize_row
returns-in_err-serialize_row g c =
    let p = err_from_is_err_and c.from_residual-in_err-serialize_row.result c.from_residual-in_err-serialize_row.ensures.1 in
    rw (p.1, p.2) (inr (parts_fail g.row.S-Fault.Denot g.W.Word.word g.W.Index.HasSpec.spec g.W.Index.Scalar.encoding g.U.HashedEntry.hash c.args.load_factor g.W.Width.LIMIT c.args.entries.now (g.S.Writer.output c.args.serializer.now) g.U.Archived.HasSpec.spec g.U.Archive.format
    (g.S.Writer.output c.write_indices.new.serializer) c.in_ok-table.table c.in_ok-table.ensures (g.S.Writer.output c.serialize_row.new.serializer) c.in_err-serialize_row.field-0.0 c.in_err-serialize_row.ensures))

pub returns-in_err-pos : goal.returns-in_err-pos
returns-in_err-pos g c =
    let r = c.in_ok-serialize_row.ensures in
    let p = err_from_is_err_and c.from_residual-in_err-pos.result c.from_residual-in_err-pos.ensures.1 in
    rw (p.1, p.2) (inr (zeros_fail g.row.S-Fault.Denot g.W.Word.word g.W.Index.HasSpec.spec g.W.Index.Scalar.encoding g.U.HashedEntry.hash c.args.load_factor g.W.Width.LIMIT c.args.entries.now (g.S.Writer.output c.args.serializer.now) g.U.Archived.HasSpec.spec g.U.Archive.format
    (g.S.Writer.output c.write_indices.new.serializer) c.in_ok-table.table c.in_ok-table.ensures (g.S.Writer.output c.serialize_row.new.serializer) r.0 c.serialize_row.new.resolvers.items r.1 r.2 r.3 (g.S.Writer.output c.align_for_in.new.serializer) c.in_err-pos.field-0.0 c.in_err-pos.ensures))

pub write_row-requires-clause-count : goal.write_row-requires-clause-count
write_row-requires-clause-count g c = grind (arith, common_steps, parts_count)

pub returns : goal.returns
returns g c =
    let r = c.in_ok-serialize_row.ensures in
    rw c.in_ok-pos.ensures.1 (index_wrote g.row.S-Fault.Denot g.W.Word.word g.W.Index.HasSpec.spec g.W.Index.Scalar.encoding g.U.HashedEntry.hash c.args.load_factor g.W.Width.LIMIT c.args.entries.now (g.S.Writer.output c.args.serializer.now) g.U.Archived.HasSpec.spec g.U.Archive.format
    (g.S.Writer.output c.write_indices.new.serializer) c.in_ok-table.table c.in_ok-table.ensures (g.S.Writer.output c.serialize_row.new.serializer) r.0 c.serialize_row.new.resolvers.items r.1 r.2 r.3 (g.S.Writer.output c.align_for_in.new.serializer) c.in_ok-pos.ensures.0 (omega (arith, c.in_ok-pos.ensures.1, c.in_ok-pos.ensures.2)) (g.S.Writer.output c.write_row.new.serializer) c.in_ok-write_row.ensures)

pub returns-in_err-write_row : goal.returns-in_err-write_row
returns-in_err-write_row g c =
    let r = c.in_ok-serialize_row.ensures in
    let p = err_from_is_err_and c.from_residual-in_err-write_row.result c.from_residual-in_err-write_row.ensures.1 in
    rw (p.1, p.2) (inr (row_fails g.row.S-Fault.Denot g.W.Word.word g.W.Index.HasSpec.spec g.W.Index.Scalar.encoding g.U.HashedEntry.hash c.args.load_factor g.W.Width.LIMIT c.args.entries.now (g.S.Writer.output c.args.serializer.now) g.U.Archived.HasSpec.spec g.U.Archive.format
    (g.S.Writer.output c.write_indices.new.serializer) c.in_ok-table.table c.in_ok-table.ensures (g.S.Writer.output c.serialize_row.new.serializer) r.0 c.serialize_row.new.resolvers.items r.1 r.2 r.3 (g.S.Writer.output c.align_for_in.new.serializer) c.in_ok-pos.ensures.0 (omega (arith, c.in_ok-pos.ensures.1, c.in_ok-pos.ensures.2)) (g.S.Writer.output c.write_row.new.serializer) c.in_err-write_row.field-0.0 c.in_err-write_row.ensures))
