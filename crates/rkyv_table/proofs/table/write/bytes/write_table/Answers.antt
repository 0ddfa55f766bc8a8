use Rattle.std.proofs.lemmas.Result.{err_from_is_err_and}
use Rattle.rkyv_base.specs.{written_as}
use Rattle.rkyv_table.proofs.PartSteps.{parts_filled}
use Rattle.rkyv_table.proofs.TableSteps.{stopped_buckets, stopped_controls, stopped_parts, stopped_zeros, table_wrote}
use Rattle.rkyv_table.proofs.table.write.bytes.write_table.Goals as goal
use Rattle.std.proofs.Common.{arith}
use Rattle.std.proofs.lemmas.Grind.{common_steps}

pub returns-in_err-serialize_slots : goal.returns-in_err-serialize_slots
returns-in_err-serialize_slots g c = grind (arith, err_from_is_err_and, stopped_parts)

pub returns-in_err-align_for_in : goal.returns-in_err-align_for_in
returns-in_err-align_for_in g c = grind (arith, err_from_is_err_and, stopped_zeros)

pub write_buckets-requires-clause-count : goal.write_buckets-requires-clause-count
write_buckets-requires-clause-count g c = grind (arith, common_steps, parts_filled)

pub returns-in_err-write_buckets : goal.returns-in_err-write_buckets
returns-in_err-write_buckets g c = grind (arith, err_from_is_err_and, stopped_buckets)

pub returns-in_err-append_in : goal.returns-in_err-append_in
returns-in_err-append_in g c = grind (arith, err_from_is_err_and, stopped_controls)

pub returns : goal.returns
returns g c =
    let s = c.in_ok-serialize_slots.ensures in
    rw c.pos-pos.ensures (table_wrote g.row.S-Fault.Denot g.U.Archived.HasSpec.spec g.W.Width.LIMIT (written_as g.X.Lend.lent g.U.Archive.format) (λ x r p out h. g.met.U.Archive.laws.size_exact (g.X.Lend.lent x) r p out h) c.args.slots.now c.args.controls.now (g.S.Writer.output c.args.serializer.now) (g.S.Writer.output c.serialize_slots.new.serializer) s.0 c.serialize_slots.new.resolvers.items s.1 s.2 s.3 (g.S.Writer.output c.align_for_in.new.serializer) (c.in_ok-align_for_in.ensures.0, rw c.in_ok-align_for_in.ensures.1 at c.in_ok-align_for_in.ensures.2) (g.S.Writer.output c.write_buckets.new.serializer) c.in_ok-write_buckets.ensures.writes (g.S.Writer.output c.append_in.new.serializer) c.in_ok-append_in.ensures)
