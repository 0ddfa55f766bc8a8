use Rattle.rkyv_end_to_end.specs.{encoding}
use Rattle.rkyv_end_to_end.proofs.Listing.{element_members, lookups_listed}
use Rattle.rkyv_end_to_end.proofs.laws.lookups_find_listed.Goals as goal

pub returns : goal.returns
returns g c = λ cmp.
    let items = encoding (element_members g.U.Archived.HasSpec g.U.Archived.Represents) g.U.Archive g.X.Lend in
    lookups_listed g.W.Word.word items (goal.F-post g cmp) c.lookups_find_the_first.ensures
