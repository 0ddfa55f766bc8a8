use Rattle.std.proofs.Common.{◌≡◌, ap, sym, ℕ}
use Rattle.std.specs.List.{find, range_with_len}
use Rattle.rkyv_base.specs.{entry_spec}
use Rattle.rkyv_base.specs.Lemmas.Entry.{entry_element}
use Rattle.rkyv_keys.specs.Lemmas.OfEntries.{valid_key}
use Rattle.rkyv_index.specs.{fits_at, index_bytes, index_len, index_of, index_pos, key_pos}
use Rattle.rkyv_index.specs.Lemmas.IndexLaws.{listed_below}
use Rattle.rkyv_index.proofs.ValidIndexMap.{entry_viewable}
use Rattle.rkyv_index.proofs.FirstListed.{first_listed}
use Rattle.rkyv_index.proofs.map.laws.lookups_find_listed.Goals as goal

pub returns : goal.returns
returns g c = λ m fits accept factor pairs decides represents.
    let k = g.K.HasSpec.spec in
    let v = g.V.HasSpec.spec in
    let kl = g.K.HasSpec.laws in
    let vl = g.V.HasSpec.laws in
    let b = index_bytes m in
    let P : ℕ → _ = fits_at (index_of m) fits in
    let n : index_len m ≡ _ = represents.len in
    record {
      homes = represents.homes;
      written = represents.written;
      first = first_listed P accept pairs (λ i pair e.
          let below = listed_below pairs (index_len m) i pair n e in
          let there = entry_viewable g.W.Word.word g.met.W.Width.layout.kind (entry_spec k v) (entry_element k v kl vl) b (index_pos m) m.valid i below in
          decides pair.0 (key_pos m i) (valid_key kl vl b (key_pos m i) there.valid) (represents.at i pair e).0)
          _ (ap (λ (x : ℕ). find P (range_with_len 0 x)) (sym n));
      each = represents.at;
    }
