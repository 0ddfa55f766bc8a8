use Rattle.std.proofs.Common.{◌≡◌, List, ap, length, rules, sym, ◌∙◌}
use Rattle.std.specs.Borrow.{Bor}
use Rattle.std.specs.Iterator.{Drains, YieldsFirstBy}
use Rattle.std.specs.Slice.Iter.{iter_rest}
use Rattle.rkyv_keys.specs.{hash_of}
use Rattle.rkyv_table.specs.{YieldsOtherCount, key_values}
use Rattle.rkyv_scan.specs.{fx_hasher, low_halves}
use Rattle.rkyv_index.specs.{index_set_format}
use Rattle.rkyv_table.specs.declared.table.list_inputs.Refs.{Refs}
use Rattle.rkyv_table.proofs.Listing.{all_came, no_other_came, results_listed}
use Rattle.rkyv_index.proofs.lists.OrderedItemsSerialize.serialize.Goals as goal

pub returns : goal.returns
returns g c =
    let values = c.args.self.now.0.items in
    let keys : Refs g.row.A.Denot = c.of-keys.result in
    let view : Bor g.row.A.Denot → g.row.A.Denot = λ key. key.now in
    let rest : Refs g.row.A.Denot → List g.row.A.Denot = λ s. iter_rest s.items in
    let steps = YieldsFirstBy view rest in
    let hash = hash_of (fx_hasher low_halves) g.A.KeyHash.calls in
    let f = index_set_format g.W.Word.word g.W.Index.HasSpec.spec g.W.Index.Scalar.encoding g.A.Archived.HasSpec.spec g.A.Archive.format hash (7, 8) in
    let all : iter_rest keys.items ≡ values = search rules in
    let count : c.len.result ≡ length values = search rules in
    results_listed (Drains steps keys) (YieldsOtherCount steps c.len.result keys) (key_values (λ k. k.now)) values
    (λ items d. all_came view rest items keys d ∙ all) (λ n h. no_other_came view rest c.len.result keys (ap length all ∙ sym count) n h)
    c.len.result count (7, 8) g.W.Width.MAX_CAPACITY g.W.Width.LIMIT f (g.S.Writer.output c.args.serializer.now) (g.S.Writer.output c.serialize_from_iter.new.serializer)
    c.serialize_from_iter.result c.serialize_from_iter.ensures
