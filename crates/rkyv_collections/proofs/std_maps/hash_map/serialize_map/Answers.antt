use Rattle.std.proofs.Common.{refl}
use Rattle.std.specs.Map.Iter.{deref_pair}
use Rattle.rkyv_keys.specs.{hash_of}
use Rattle.rkyv_table.specs.{listed}
use Rattle.rkyv_collections.specs.{map_format}
use Rattle.rkyv_collections.proofs.StdWriting.{writes_distinct, writes_rest}
use Rattle.rkyv_collections.proofs.std_maps.hash_map.serialize_map.Goals as goal

pub returns : goal.returns
returns g c =
    let m = c.args.map.now in
    let hash = hash_of g.H.KeyHasher.hasher g.A.KeyHash.calls in
    let f = map_format g.W.Word.word g.A.Archived.HasSpec.spec g.B.Archived.HasSpec.spec g.A.Archive.format g.B.Archive.format hash (7, 8) in
    let o = g.S.Writer.output c.args.serializer.now in
    let o' = g.S.Writer.output c.serialize_from_iter.new.serializer in
    writes_distinct g.A.PartialEq.eq (listed g.W.Width.MAX_CAPACITY (7, 8) f) m.entries c.iter.ensures.unique g.W.Width.LIMIT o o' c.serialize_from_iter.result
    (writes_rest deref_pair (λ left. left) (λ entries. entries) (λ entries. refl) c.iter.result m.entries c.iter.ensures.rest c.len.result c.len.ensures.len
    (7, 8) g.W.Width.MAX_CAPACITY g.W.Width.LIMIT f o o' c.serialize_from_iter.result c.serialize_from_iter.ensures)
