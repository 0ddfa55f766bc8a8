use Rattle.std.proofs.Common.{◌∙◌, ap}
use Rattle.std.specs.Slice.Iter.{iter_rest}
use Rattle.rkyv_index.specs.{indices_from}
use Rattle.rkyv_index.proofs.IndexSteps.{indices_result}
use Rattle.rkyv_index.proofs.map.write.write_indices.Goals as goal

pub returns : goal.returns
returns g c =
    let e = g.W.Index.Scalar.encoding in
    let hash = g.U.HashedEntry.hash in
    let state = c.new-indices.result in
    indices_result g.row.S-Fault.Denot g.W.Word.word g.W.Index.HasSpec.spec e hash c.args.load_factor g.W.Width.LIMIT c.args.entries.now (g.S.Writer.output c.args.serializer.now)
    (λ s. indices_from hash e.value s.index (iter_rest s.values)) state
    (ap (λ n. indices_from hash e.value n (iter_rest state.values)) c.new-indices.ensures.index ∙ ap (indices_from hash e.value 0) c.new-indices.ensures.rest)
    g.W.Width.MAX_CAPACITY (g.S.Writer.output c.serialize_by.new.serializer) c.serialize_by.result c.serialize_by.ensures
