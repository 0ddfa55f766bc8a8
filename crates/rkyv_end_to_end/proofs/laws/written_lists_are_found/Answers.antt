use Rattle.rkyv_end_to_end.specs.{encoding}
use Rattle.rkyv_end_to_end.proofs.Listing.{element_members, lists_found, tables_valid}
use Rattle.rkyv_end_to_end.proofs.laws.written_lists_are_found.Goals as goal

pub returns : goal.returns
returns g c = λ load_factor cmp.
    let items = encoding (element_members g.U.Archived.HasSpec g.U.Archived.Represents) g.U.Archive g.X.Lend in
    lists_found g.W.Word.word items load_factor (goal.F-post g cmp) c.lookups_find_the_first.ensures g.met.W.Width.layout.kind g.U.Archived.HasSpec.laws
    (tables_valid g.W.Word.word items load_factor (c.represented_lists_were_written.ensures load_factor) c.walk_visits_homes.ensures.written c.walk_visits_homes.ensures.empty g.met.W.Width.layout.kind g.U.Archived.HasSpec.laws
    (c.written_tables_represent.ensures load_factor) (c.written_tables_pass.ensures load_factor))
