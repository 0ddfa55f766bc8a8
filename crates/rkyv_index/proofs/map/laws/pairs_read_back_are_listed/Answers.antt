use Rattle.std.proofs.Common.{◌∙◌, sym}
use Rattle.rkyv_base.specs.{entry_spec}
use Rattle.rkyv_base.specs.Lemmas.Entry.{entry_element}
use Rattle.rkyv_keys.specs.Lemmas.OfEntries.{entry_once}
use Rattle.rkyv_table.specs.{len_at}
use Rattle.rkyv_index.specs.{pair_at, pairs_equal}
use Rattle.rkyv_index.specs.Lemmas.IndexLaws.{listed_below}
use Rattle.rkyv_index.proofs.ValidIndexMap.{entry_viewable}
use Rattle.rkyv_index.proofs.ListSteps.{equal_lists}
use Rattle.rkyv_index.proofs.map.laws.pairs_read_back_are_listed.Goals as goal

pub returns : goal.returns
returns g c = λ b p factor listed read view st reads.
    let w = g.W.Word.word in
    let k = g.K.HasSpec.spec in
    let v = g.V.HasSpec.spec in
    let kl = g.K.HasSpec.laws in
    let vl = g.V.HasSpec.laws in
    let once = entry_once kl vl g.K.Represents.represents g.V.Represents.represents g.A.PartialEq.eq g.B.PartialEq.eq g.met.K.RepresentsUniquely.once g.met.V.RepresentsUniquely.once in
    equal_lists (pairs_equal g.A.PartialEq.eq g.B.PartialEq.eq) listed read (sym st.len ∙ sym reads.0) (λ i x y e e'.
    let below = listed_below listed (len_at w b p) i x st.len e in
    let there = entry_viewable w g.met.W.Width.layout.kind (entry_spec k v) (entry_element k v kl vl) b p view i below in
    once x y b (pair_at w k v b p i) there.valid (st.at i x e) (reads.1 i y e'))
