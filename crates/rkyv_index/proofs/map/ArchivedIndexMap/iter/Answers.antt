use Rattle.std.proofs.Common.{◌≡◌, ◌*◌, ◌<◌, ◌^◌, ◌∙◌, ap, arith, length, subst, List, ℕ, Bor}
use Rattle.rkyv_base.specs.{entry_spec}
use Rattle.rkyv_base.specs.Lemmas.Entry.{entry_element}
use Rattle.rkyv_index.specs.{index_bytes, index_len, index_pos}
use Rattle.rkyv_index.proofs.ValidIndexMap.{entries_inside, row_viewable}
use Rattle.rkyv_index.proofs.Rows.{row_length}
use Rattle.rkyv_index.proofs.map.ArchivedIndexMap.iter.Goals as goal

pub returns-clause-count : goal.returns-clause-count
returns-clause-count g c = row_length c.size.result c.args.self.begin c.len.result ∙ c.len.ensures

pub returns-clause-all_valid : goal.returns-clause-all_valid
returns-clause-all_valid g c =
    let k = g.K.HasSpec.spec in
    let v = g.V.HasSpec.spec in
    let m = c.args.self in
    row_viewable g.W.Word.word g.met.W.Width.layout.kind (entry_spec k v) (entry_element k v g.K.HasSpec.laws g.V.HasSpec.laws) (index_bytes m) (index_pos m) m.valid
    _ c.size.ensures _ m.begins _ c.len.ensures _ (ap (λ (x : Bor (List ℕ)). x.now) c.bytes.ensures)

-- the entries of the map are valid and end inside the archive
pub invariant_of-result : goal.invariant_of-result
invariant_of-result g c =
    let w = g.W.Word.word in
    let kind = g.met.W.Width.layout.kind in
    let k = g.K.HasSpec.spec in
    let v = g.V.HasSpec.spec in
    let s = entry_spec k v in
    let law = entry_element k v g.K.HasSpec.laws g.V.HasSpec.laws in
    let m = c.args.self in
    let b : List ℕ = index_bytes m in
    let begin = m.begins in
    let room : c.len.result * c.size.result ≡ index_len m * s.size =
    ap (λ n. n * c.size.result) c.len.ensures ∙ ap (λ n. index_len m * n) c.size.ensures in
    let inside = entries_inside w kind s law b (index_pos m) m.valid in
    let header = m.valid.inside in
    let n : length b < 2 ^ 64 = subst (λ (x : Bor (List ℕ)). length x.now < 2 ^ 64) c.bytes.ensures c.bytes.type_inv.0 in
    record {
      below = omega (arith, begin, room, inside, header, n);
      all_valid = row_viewable w kind s law b (index_pos m) m.valid _ c.size.ensures _ m.begins _ c.len.ensures _ (ap (λ (x : Bor (List ℕ)). x.now) c.bytes.ensures);
    }
