use Rattle.std.proofs.lemmas.Grind.{common_steps}
use Rattle.std.proofs.Common.{arith}
use Rattle.rkyv_base.specs.{entry_spec}
use Rattle.rkyv_base.specs.Lemmas.Entry.{entry_element}
use Rattle.rkyv_index.proofs.Checking.{view_there}
use Rattle.rkyv_index.proofs.ValidIndexMap.{entry_viewable}
use Rattle.rkyv_index.proofs.map.read.entries.entry_in.Goals as goal

pub at-requires : goal.at-requires
at-requires g c =
    let m = c.args.view in
    let k = g.K.HasSpec.spec in
    let v = g.V.HasSpec.spec in
    let there = entry_viewable g.W.Word.word g.met.W.Width.layout.kind (entry_spec k v) (entry_element k v g.K.HasSpec.laws g.V.HasSpec.laws) m.archive.now m.pos c.requires.map c.args.index c.requires.below in
    rw (c.entry_pos-at.ensures, c.size.ensures, c.requires.begin) there

pub returns-clause-at : goal.returns-clause-at
returns-clause-at g c = grind (arith, common_steps)

pub returns-clause-viewable : goal.returns-clause-viewable
returns-clause-viewable g c =
    let m = c.args.view in
    let k = g.K.HasSpec.spec in
    let v = g.V.HasSpec.spec in
    let there = entry_viewable g.W.Word.word g.met.W.Width.layout.kind (entry_spec k v) (entry_element k v g.K.HasSpec.laws g.V.HasSpec.laws) m.archive.now m.pos c.requires.map c.args.index c.requires.below in
    view_there (entry_spec k v) c.at.result m.archive _ (returns-clause-at g c) there
