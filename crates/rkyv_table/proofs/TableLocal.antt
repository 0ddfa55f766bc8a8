-- The represented items of a table depend only on the bytes on which its validity depends.
use Rattle.std.proofs.Common.{arith, subst}
use Rattle.std.proofs.lemmas.Int.{ints}
use Rattle.std.proofs.lemmas.List.{length-map}
use Rattle.std.proofs.lemmas.List.Elements.{All-get_or}
use Rattle.std.proofs.lemmas.Option.{slice_get_within}
use Rattle.std.specs.Int.{Width}
use Rattle.std.specs.Prelude.{◌≡◌, ℕ, ◌+◌, ◌*◌, ◌^◌, ◌<◌, ◌≤◌, List, length, slice_get, slice_index, Some}
use Rattle.rkyv_base.specs.{AgreeOn, ElementSpec, IsElement, RepresentsLocally}
use Rattle.rkyv_base.specs.Lemmas.Bytes.{agree_on_part}
use Rattle.rkyv_table.proofs.WrittenStep.{home_below}
use Rattle.rkyv_table.specs.{AreValidItems, AreWrittenControls, BucketsRepresent, TableRepresents, bucket_at, control_count, controls_at, hashes_of, items_of, part_size, table_spec}
use Rattle.rkyv_table.specs.Lemmas.ItemPositions.{bucket_is_valid_within}
use Rattle.rkyv_table.specs.Lemmas.SameHeader.{begin_same, cap_same, len_same}
use Rattle.rkyv_table.specs.Lemmas.TableLaws.{bucket_inside}

module _ {X : Type 0} (w : Width) (s : ElementSpec) (laws : IsElement s) (represents : List ℕ → ℕ → X → Type 0) (local : RepresentsLocally s represents) (factor : ℕ × ℕ) where
  module _ (pairs : List (ℕ × X)) (b c : List ℕ) (lo last begin cap : ℕ) (some : 0 < length pairs) (o : lo ≤ begin) (items : AreValidItems s b begin cap lo last)
      (same : AgreeOn b c lo (begin + part_size s.size cap)) (st : BucketsRepresent s.size represents b cap begin pairs) (pos_cap : 0 < cap) where
    controls_same : controls_at s.size b begin cap ≡ controls_at s.size c begin cap
    controls_same = agree_on_part b c lo (begin + part_size s.size cap) (begin + cap * s.size) (begin + cap * s.size + control_count cap) (omega arith) (omega arith) (omega arith) same

    item_local : (i : ℕ) (x : X) → slice_get (items_of pairs) i ≡ Some x → represents c (bucket_at s.size begin cap (slice_index st.homes i)) x
    item_local i x e =
        let k : ℕ = slice_index st.homes i in
        let controls : List ℕ = controls_at s.size b begin cap in
        let n = length-map pairs (λ (y : ℕ × X). y.1) in
        let m = length-map pairs (λ (y : ℕ × X). y.0) in
        let within = slice_get_within (items_of pairs) i x e in
        let l : i < length (hashes_of pairs) = omega (arith, within, n, m) in
        let below : k < cap = home_below cap (hashes_of pairs) st.homes controls i pos_cap st.controls l in
        let small = All-get_or (λ v. v < 2 ^ 64) (hashes_of pairs) i 0 l st.hashes in
        let tag = st.controls.tags i l in
        let h = bucket_is_valid_within s laws b begin cap lo last k o items below (omega (arith, tag, small)) in
        let inside = bucket_inside s.size begin cap k below in
        let at : ℕ = bucket_at s.size begin cap k in
        let end : ℕ = begin + part_size s.size cap in
        let w1 = laws.rest_in_range b at h.lower begin h.rest h.below h.is_valid in
        local x b c at h.lower begin h.rest h.below h.is_valid (agree_on_part b c lo end at (at + s.size) (omega (arith, inside.0, o)) (omega (arith, inside.1)) (omega arith) same)
        (agree_on_part b c lo end h.lower h.rest h.above (omega (arith, w1.1)) w1.0 same) (st.items i x e)

    buckets_local : BucketsRepresent s.size represents c cap begin pairs
    buckets_local = record { homes = st.homes; hashes = st.hashes; controls = subst (AreWrittenControls cap (hashes_of pairs) st.homes) controls_same st.controls; items = item_local }

  -- the represented items depend only on the bytes on which validity depends
  pub table_local : RepresentsLocally (table_spec w s) (TableRepresents w s represents factor)
  table_local pairs b c p lo hi l o h fixed part st = grind (arith, len_same, cap_same, begin_same, ints, buckets_local)
