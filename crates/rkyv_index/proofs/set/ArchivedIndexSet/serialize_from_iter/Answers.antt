use Rattle.rkyv_base.specs.{unit_format, unit_spec}
use Rattle.rkyv_keys.specs.{hash_of}
use Rattle.rkyv_table.proofs.UnitItems.{results_set}
use Rattle.rkyv_index.specs.{index_format}
use Rattle.rkyv_index.proofs.set.ArchivedIndexSet.serialize_from_iter.Goals as goal

pub returns : goal.returns
returns g c =
    let hash = hash_of g.H.KeyHasher.hasher g.A.KeyHash.calls in
    let pairs = index_format g.W.Word.word g.W.Index.HasSpec.spec g.W.Index.Scalar.encoding g.K.HasSpec.spec unit_spec g.A.Archive.format unit_format hash c.args.load_factor in
    results_set (λ s. s.keys) g.I.Iterator.next_gives g.BK.Lend.lent pairs c.args.len c.args.load_factor g.W.Width.MAX_CAPACITY
    (g.S.Writer.output c.args.serializer.now) (g.S.Writer.output c.serialize_from_iter.new.serializer) (record { keys = c.args.iter }) g.W.Width.LIMIT c.serialize_from_iter.result c.serialize_from_iter.ensures
