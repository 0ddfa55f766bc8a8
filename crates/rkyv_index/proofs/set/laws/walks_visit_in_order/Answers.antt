use Rattle.std.proofs.Common.{◌∙◌, ap}
use Rattle.std.specs.Option.{option_map}
use Rattle.std.proofs.lemmas.List.{length-map}
use Rattle.std.proofs.lemmas.Option.{slice_get-map}
use Rattle.rkyv_base.specs.{entry_spec, unit_spec}
use Rattle.rkyv_table.specs.{len_at}
use Rattle.rkyv_index.specs.{entries_pos}
use Rattle.rkyv_index.proofs.ListedWalks.{row_zip}
use Rattle.rkyv_index.proofs.set.laws.walks_visit_in_order.Goals as goal

pub returns : goal.returns
returns g c = λ factor b p keys represents.
    let w = g.W.Word.word in
    let k = g.K.HasSpec.spec in
    let paired : g.row.A.Denot → g.row.A.Denot × Unit {0} = λ x. (x, tt) in
    row_zip (g.K.Represents.represents b) (entry_spec k unit_spec).size keys (entries_pos w b p) (len_at w b p) (represents.len ∙ length-map keys paired)
    (λ i x at. (represents.at i (x, tt) (slice_get-map paired keys i ∙ ap (option_map paired) at)).0)
