use Rattle.std.proofs.Common.{◌≡◌, List, length, ap, sym, subst, ◌∙◌}
use Rattle.std.specs.Iterator.{Drains}
use Rattle.rkyv_base.specs.declared.adapter.EntryAdapter.{EntryAdapter}
use Rattle.rkyv_keys.specs.{hash_of}
use Rattle.rkyv_table.specs.{HasCapacity, YieldsOtherCount}
use Rattle.rkyv_index.specs.{pairs_of}
use Rattle.rkyv_index.proofs.LentRow.{items_result}
use Rattle.rkyv_index.proofs.map.ArchivedIndexMap.serialize_from_iter.Goals as goal

pub returns : goal.returns
returns g c =
    let cap = c.in_ok-capacity.ensures in
    let has : HasCapacity c.args.len c.args.load_factor g.W.Width.MAX_CAPACITY = (cap.0, rw (cap.1, c.MAX_CAPACITY.ensures) at cap.2) in
    let steps = g.I.Iterator.next_gives in
    let hash = hash_of g.H.KeyHasher.hasher g.A.KeyHash.calls in
    let entries : List (EntryAdapter g.row.BK.Denot g.row.BV.Denot g.row.A.Denot g.row.B.Denot) = c.as_slice.result.now in
    let there = sym c.as_slice.ensures.value in
    let exactly : Drains steps c.args.iter (pairs_of entries) = subst (λ (xs : List (EntryAdapter g.row.BK.Denot g.row.BV.Denot g.row.A.Denot g.row.B.Denot)). Drains steps c.args.iter (pairs_of xs)) there c.in-Ok.ensures.0 in
    let count : length entries ≡ c.args.len = ap length c.as_slice.ensures.value ∙ c.in-Ok.ensures.1 in
    items_result g.row.S-Fault.Denot g.BK.Lend.lent g.BV.Lend.lent g.W.Word.word g.W.Index.HasSpec.spec g.W.Index.Scalar.encoding g.K.HasSpec.spec g.V.HasSpec.spec g.A.Archive.format g.B.Archive.format hash c.args.load_factor
    (Drains steps c.args.iter) (YieldsOtherCount steps c.args.len c.args.iter) c.args.len g.W.Width.MAX_CAPACITY g.W.Width.LIMIT has entries exactly count
    (g.S.Writer.output c.args.serializer.now) (g.S.Writer.output c.write_index.new.serializer) c.write_index.result c.write_index.ensures
