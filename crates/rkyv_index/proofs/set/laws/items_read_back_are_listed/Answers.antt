use Rattle.std.proofs.Common.{◌≡◌, ◌∙◌, Some, ap, sym}
use Rattle.std.specs.Option.{option_map}
use Rattle.std.proofs.lemmas.List.{length-map}
use Rattle.std.proofs.lemmas.Option.{slice_get-map}
use Rattle.std.specs.List.{slice_get}
use Rattle.rkyv_base.specs.{entry_spec, unit_spec}
use Rattle.rkyv_base.specs.Lemmas.Empty.{unit_element}
use Rattle.rkyv_base.specs.Lemmas.Entry.{entry_element}
use Rattle.rkyv_keys.specs.Lemmas.OfEntries.{valid_key}
use Rattle.rkyv_table.specs.{len_at, with_units}
use Rattle.rkyv_index.specs.{pair_at}
use Rattle.rkyv_index.specs.Lemmas.IndexLaws.{listed_below}
use Rattle.rkyv_index.proofs.ValidIndexMap.{entry_viewable}
use Rattle.rkyv_index.proofs.ListSteps.{equal_lists}
use Rattle.rkyv_index.proofs.set.laws.items_read_back_are_listed.Goals as goal

pub returns : goal.returns
returns g c = λ b p factor listed read view st reads.
    let w = g.W.Word.word in
    let k = g.K.HasSpec.spec in
    let kl = g.K.HasSpec.laws in
    let paired : g.row.A.Denot → g.row.A.Denot × Unit {0} = λ x. (x, tt) in
    let count = st.len ∙ length-map listed paired in
    equal_lists g.A.PartialEq.eq listed read (sym count ∙ sym reads.0) (λ i x y e e'.
    let below = listed_below listed (len_at w b p) i x count e in
    let there = entry_viewable w g.met.W.Width.layout.kind (entry_spec k unit_spec) (entry_element k unit_spec kl unit_element) b p view i below in
    let at : slice_get (with_units listed) i ≡ Some (x, tt) = slice_get-map paired listed i ∙ ap (option_map paired) e in
    let q = pair_at w k unit_spec b p i in
    g.met.K.RepresentsUniquely.once x y b q (valid_key kl unit_element b q there.valid) (st.at i (x, tt) at).0 (reads.1 i y e'))
