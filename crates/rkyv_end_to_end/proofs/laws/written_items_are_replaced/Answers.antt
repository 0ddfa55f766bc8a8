use Rattle.rkyv_end_to_end.specs.{encoding}
use Rattle.rkyv_end_to_end.proofs.Listing.{element_members, items_replaced}
use Rattle.rkyv_end_to_end.proofs.laws.written_items_are_replaced.Goals as goal

pub returns : goal.returns
returns g c =
    let items = encoding (element_members g.U.Archived.HasSpec g.U.Archived.Represents) g.U.Archive g.X.Lend in
    items_replaced g.W.Word.word items c.walk_visits_homes.ensures.written c.walked_are_full.ensures c.writes_keep_the_table.ensures c.lent_items_written_represent.ensures
    g.met.W.Width.layout.kind g.U.Archived.HasSpec.laws
