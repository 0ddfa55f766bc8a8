use Rattle.std.proofs.Common.{refl, rules}
use Rattle.std.specs.Borrow.{Bor}
use Rattle.std.specs.Slice.Iter.{iter_rest}
use Rattle.rkyv_keys.specs.{hash_of}
use Rattle.rkyv_table.specs.declared.table.list_inputs.Refs.{Refs}
use Rattle.rkyv_collections.specs.{set_format}
use Rattle.rkyv_collections.proofs.StdWriting.{writes_rest}
use Rattle.rkyv_collections.proofs.lists.items.SetItemsSerialize.serialize.Goals as goal

pub returns : goal.returns
returns g c =
    let hash = hash_of g.H.KeyHasher.hasher g.A.KeyHash.calls in
    let f = set_format g.W.Word.word g.A.Archived.HasSpec.spec g.A.Archive.format hash c.args.self.now.load_factor in
    writes_rest (λ (item : Bor g.row.A.Denot). item.now) (λ (s : Refs g.row.A.Denot). iter_rest s.items) (λ values. values) (λ values. refl) c.of-items.result c.args.self.now.items.now (search rules) _ refl
    c.args.self.now.load_factor g.W.Width.MAX_CAPACITY g.W.Width.LIMIT f (g.S.Writer.output c.args.serializer.now) (g.S.Writer.output c.serialize_from_iter.new.serializer)
    c.serialize_from_iter.result c.serialize_from_iter.ensures
