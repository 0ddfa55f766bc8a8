use Rattle.rkyv_base.specs.{entry_spec}
use Rattle.rkyv_base.specs.Lemmas.Entry.{entry_element}
use Rattle.rkyv_table.specs.{table_spec}
use Rattle.rkyv_index.proofs.Checking.{view_there}
use Rattle.rkyv_index.proofs.ValidIndexMap.{table_of_indices}
use Rattle.rkyv_index.proofs.map.read.accessors.decode.Goals as goal

pub at-requires : goal.at-requires
at-requires g c =
    let m = c.args.view in
    let there = table_of_indices g.W.Word.word g.met.W.Width.layout.kind (entry_spec g.K.HasSpec.spec g.V.HasSpec.spec) (entry_element g.K.HasSpec.spec g.V.HasSpec.spec g.K.HasSpec.laws g.V.HasSpec.laws) m.archive.now m.pos c.requires
    g.W.Index.HasSpec.spec g.W.Index.Scalar.encoding g.met.W.Index.Scalar.laws g.met.W.IndexWidth.index in
    rw c.pos.ensures there

pub of-requires : goal.of-requires
of-requires g c =
    let m = c.args.view in
    let there = table_of_indices g.W.Word.word g.met.W.Width.layout.kind (entry_spec g.K.HasSpec.spec g.V.HasSpec.spec) (entry_element g.K.HasSpec.spec g.V.HasSpec.spec g.K.HasSpec.laws g.V.HasSpec.laws) m.archive.now m.pos c.requires
    g.W.Index.HasSpec.spec g.W.Index.Scalar.encoding g.met.W.Index.Scalar.laws g.met.W.IndexWidth.index in
    view_there (table_spec g.W.Word.word g.W.Index.HasSpec.spec) c.at.result m.archive c.pos.result c.at.ensures (rw c.pos.ensures there)
