use Rattle.std.proofs.Common.{List, subst, sym}
use Rattle.std.proofs.lemmas.List.{length-map}
use Rattle.std.specs.List.{IsDistinct}
use Rattle.std.specs.Map.Iter.{deref}
use Rattle.rkyv_base.specs.{unit_format, unit_spec}
use Rattle.rkyv_keys.specs.{hash_of}
use Rattle.rkyv_table.specs.{listed, with_units}
use Rattle.rkyv_collections.specs.{map_format}
use Rattle.rkyv_collections.specs.Lemmas.StdSet.{keys_with_units}
use Rattle.rkyv_collections.proofs.StdWriting.{writes_distinct, writes_rest}
use Rattle.rkyv_collections.proofs.std_maps.hash_set.serialize_set.Goals as goal

pub returns : goal.returns
returns g c =
    let keys = c.args.set.now.keys in
    let hash = hash_of g.H.KeyHasher.hasher g.A.KeyHash.calls in
    let f = map_format g.W.Word.word g.A.Archived.HasSpec.spec unit_spec g.A.Archive.format unit_format hash (7, 8) in
    let o = g.S.Writer.output c.args.serializer.now in
    let o' = g.S.Writer.output c.serialize_from_iter.new.serializer in
    let unique = subst (λ (ks : List g.row.A.Denot). IsDistinct g.A.PartialEq.eq ks) (sym (keys_with_units keys)) c.iter.ensures.unique in
    writes_distinct g.A.PartialEq.eq (listed g.W.Width.MAX_CAPACITY (7, 8) f) (with_units keys) unique g.W.Width.LIMIT o o' c.serialize_from_iter.result
    (writes_rest deref (λ left. left) with_units (λ values. length-map values (λ key. (key, tt))) c.iter.result keys c.iter.ensures.rest c.len.result c.len.ensures.len (7, 8) g.W.Width.MAX_CAPACITY g.W.Width.LIMIT f o o' c.serialize_from_iter.result c.serialize_from_iter.ensures)
