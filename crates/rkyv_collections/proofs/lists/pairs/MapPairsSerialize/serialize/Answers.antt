use Rattle.std.proofs.Common.{refl, rules}
use Rattle.std.specs.Map.Iter.{deref_pair}
use Rattle.std.specs.Slice.Iter.{iter_rest}
use Rattle.rkyv_keys.specs.{hash_of}
use Rattle.rkyv_table.specs.declared.table.list_inputs.PairRefs.{PairRefs}
use Rattle.rkyv_collections.specs.{map_format}
use Rattle.rkyv_collections.proofs.StdWriting.{writes_rest}
use Rattle.rkyv_collections.proofs.lists.pairs.MapPairsSerialize.serialize.Goals as goal

pub returns : goal.returns
returns g c =
    let hash = hash_of g.H.KeyHasher.hasher g.A.KeyHash.calls in
    let f = map_format g.W.Word.word g.A.Archived.HasSpec.spec g.B.Archived.HasSpec.spec g.A.Archive.format g.B.Archive.format hash c.args.self.now.load_factor in
    writes_rest deref_pair (λ (s : PairRefs g.row.A.Denot g.row.B.Denot). iter_rest s.pairs) (λ values. values) (λ values. refl) c.of-pairs.result c.args.self.now.pairs.now (search rules) _ refl
    c.args.self.now.load_factor g.W.Width.MAX_CAPACITY g.W.Width.LIMIT f (g.S.Writer.output c.args.serializer.now) (g.S.Writer.output c.serialize_from_iter.new.serializer)
    c.serialize_from_iter.result c.serialize_from_iter.ensures
