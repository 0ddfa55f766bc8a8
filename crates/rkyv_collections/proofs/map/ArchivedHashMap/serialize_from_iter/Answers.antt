use Rattle.std.proofs.Common.{MatchResult, subst}
use Rattle.std.specs.Iterator.{Drains}
use Rattle.rkyv_base.specs.{written_as}
use Rattle.rkyv_keys.specs.{hash_of}
use Rattle.rkyv_table.specs.{WriteItemsFails, WroteItems, YieldsOtherCount, pair_values}
use Rattle.rkyv_collections.specs.{map_format}
use Rattle.rkyv_collections.proofs.HashedPairs.{writes_as_map}
use Rattle.rkyv_collections.proofs.map.ArchivedHashMap.serialize_from_iter.Goals as goal

pub returns : goal.returns
returns g c =
    let hash = hash_of g.H.KeyHasher.hasher g.A.KeyHash.calls in
    let steps = g.I.Iterator.next_gives in
    let w = g.W.Word.word in
    let k = g.K.HasSpec.spec in
    let v = g.V.HasSpec.spec in
    let len = c.args.len in
    let factor = c.args.load_factor in
    let max = g.W.Width.MAX_CAPACITY in
    let o = g.S.Writer.output c.args.serializer.now in
    let o' = g.S.Writer.output c.serialize_by.new.serializer in
    let f = written_as (pair_values g.BK.Lend.lent g.BV.Lend.lent) (map_format w k v g.A.Archive.format g.B.Archive.format hash factor) in
    subst (λ iter. MatchResult c.serialize_by.result (WroteItems (Drains steps iter) len factor max f o o' g.W.Width.LIMIT) (WriteItemsFails (Drains steps iter) len factor max f o o' g.W.Width.LIMIT (YieldsOtherCount steps len iter))) c.new-entries.ensures
    (writes_as_map (λ s. s.pairs) steps g.BK.Lend.lent g.BV.Lend.lent hash len factor max w k v g.A.Archive.format g.B.Archive.format o o' c.new-entries.result g.W.Width.LIMIT c.serialize_by.result c.serialize_by.ensures)
