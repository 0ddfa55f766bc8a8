use Rattle.rkyv_base.specs.{entry_spec}
use Rattle.rkyv_base.specs.Lemmas.Entry.{entry_element}
use Rattle.rkyv_table.specs.{table_spec}
use Rattle.rkyv_index.proofs.Checking.{view_there}
use Rattle.rkyv_index.proofs.ValidIndexMap.{table_of_indices}
use Rattle.rkyv_index.proofs.map.ArchivedIndexMap.table.Goals as goal

pub at-view-requires : goal.at-view-requires
at-view-requires g c =
    let m = c.args.self.view in
    let k = g.K.HasSpec.spec in
    let v = g.V.HasSpec.spec in
    let there = table_of_indices g.W.Word.word g.met.W.Width.layout.kind (entry_spec k v) (entry_element k v g.K.HasSpec.laws g.V.HasSpec.laws) m.archive.now m.pos c.args.self.valid
    g.W.Index.HasSpec.spec g.W.Index.Scalar.encoding g.met.W.Index.Scalar.laws g.met.W.IndexWidth.index in
    rw c.pos.ensures there

pub with_header-requires-clause-view : goal.with_header-requires-clause-view
with_header-requires-clause-view g c =
    let m = c.args.self.view in
    let k = g.K.HasSpec.spec in
    let v = g.V.HasSpec.spec in
    let there = table_of_indices g.W.Word.word g.met.W.Width.layout.kind (entry_spec k v) (entry_element k v g.K.HasSpec.laws g.V.HasSpec.laws) m.archive.now m.pos c.args.self.valid
    g.W.Index.HasSpec.spec g.W.Index.Scalar.encoding g.met.W.Index.Scalar.laws g.met.W.IndexWidth.index in
    view_there (table_spec g.W.Word.word g.W.Index.HasSpec.spec) c.at-view.result m.archive c.pos.result c.at-view.ensures (rw c.pos.ensures there)
