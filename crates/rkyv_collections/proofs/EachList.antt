-- After all values of a map were written, it represents the list with the new values.
use Rattle.std.proofs.Common.{◌≡◌, ℕ, ◌<◌, ◌∙◌, ap, sym, subst, subst₂, arith, List, length, map, Some, slice_index}
use Rattle.std.specs.Prelude.{get_or, slice_get}
use Rattle.std.specs.Borrow.{MutBor}
use Rattle.std.specs.Option.{option_map}
use Rattle.std.specs.Int.{Width}
use Rattle.std.proofs.lemmas.List.{length-map}
use Rattle.std.proofs.lemmas.Option.{same_Some, slice_get-get_or, slice_get-map, slice_get_within}
use Rattle.rkyv_base.specs.{ElementSpec, IsElement, PairRepresents, RepresentsLocally, Viewable, bytes_in, entry_spec, seal_pos, value_pos}
use Rattle.rkyv_base.specs.declared.seal.Seal.{Seal}
use Rattle.rkyv_base.specs.Lemmas.Entry.{entry_element, viewable_key, viewable_value}
use Rattle.rkyv_keys.specs.{NativePairs}
use Rattle.rkyv_table.specs.{IsWalked, KeepsSeals, SealedBy, WritesOnce, capacity, home_positions}
use Rattle.rkyv_table.specs.Lemmas.SameHeader.{cap_same, len_same}
use Rattle.rkyv_table.proofs.EachItem.{sealed_keeps}
use Rattle.rkyv_table.proofs.ValidTable.{item_viewable}
use Rattle.rkyv_table.proofs.WrittenTables.{home_pos, home_walked}
use Rattle.rkyv_collections.specs.{ComputesNatives, KeepsKeys, MapAt, MapRepresents, WritesEachValue, entry_at, map_spec}
use Rattle.rkyv_collections.specs.Lemmas.PairHomes.{homes_count}

module _ (k v : ElementSpec) (kl : IsElement k) (vl : IsElement v) (w : Width) {A B : Type 0} (native : NativePairs A B) (kn : RepresentsLocally k native.key) (vn : RepresentsLocally v native.value)
    {F V : Type 0} (post : F → MutBor (Seal V) → Unit {0} → MutBor (Seal V) → Type 0) (write : F) (f : B → B) (b c : List ℕ) (p : ℕ) (factor : ℕ × ℕ) (pairs : List (A × B))
    (keeps : KeepsSeals post v write) (computes : ComputesNatives post v native.value write f) (view : Viewable (map_spec w k v) b p) where
  abbrev at : ℕ → ℕ
  at i = entry_at w k v b p i

  abbrev m : MapAt
  m = record { word = w; key = k; value = v; bytes = b; pos = p }

  -- the value at `q` represents the new value
  value_written : (q : ℕ) (old : B) → Viewable v b q → WritesOnce v (SealedBy post write tt) b q c → native.value b q old → native.value c q (f old)
  value_written q old there once before =
      let by = once.writes in
      let wrote = sealed_keeps post v write once.before once.after q keeps once.viewable by in
      let first : native.value once.before q old = vn old b once.before q 0 q there.valid.0 (omega arith) there.valid.1 once.first.fixed (once.first.parts there.valid.0 there.valid.1) before in
      let given : native.value (bytes_in by.given.now) (seal_pos by.given.now) old = subst₂ (λ x n. native.value x n old) (sym by.bytes) (sym by.pos) first in
      let at_given : Viewable v (bytes_in by.given.now) (seal_pos by.given.now) = subst₂ (Viewable v) (sym by.bytes) (sym by.pos) once.viewable in
      let left : native.value (bytes_in by.left.now) (seal_pos by.given.now) (f old) = computes by.given by.left old at_given by.met given in
      let stays = (keeps by.given by.left at_given.inside at_given by.met).stays in
      let after : native.value once.after q (f old) = subst₂ (λ x n. native.value x n (f old)) (by.leaves stays.same_reference) by.pos left in
      let valid = wrote.1 0 q once.viewable.valid.0 (omega arith) (omega arith) once.viewable.valid.1 in
      vn (f old) once.after c q 0 q once.viewable.valid.0 (omega arith) valid once.last.fixed (once.last.parts once.viewable.valid.0 valid) after

  module _ (each : WritesEachValue m (SealedBy post write tt) c) (kept : KeepsKeys m native.key_hash c) (st : MapRepresents w k v native.key native.value native.key_hash factor b p pairs) where
    -- the entry in bucket `i` represents the new pair
    pair_written : (i : ℕ) (old : A × B) → IsWalked w b p i → PairRepresents k v native.key native.value b (at i) old → PairRepresents k v native.key native.value c (at i) (old.0, f old.1)
    pair_written i old there before =
        let entry = item_viewable w (entry_spec k v) (entry_element k v kl vl) b p view i there in
        let key = viewable_key k v kl vl b (at i) entry in
        let same = kept.keys i there in (
          kn old.0 b c (at i) 0 (at i) key.valid.0 (omega arith) key.valid.1 same.fixed (same.parts key.valid.0 key.valid.1) before.0,
          value_written (value_pos k v (at i)) old.1 (viewable_value k v kl vl b (at i) entry) (each i there) before.1,
        )

    abbrev new : A × B → A × B
    new pair = (pair.0, f pair.1)

    abbrev positions : List ℕ → List ℕ
    positions d = home_positions w (entry_spec k v).size d p st.homes

    nth_written : (i : ℕ) (pair : A × B) → slice_get (map new pairs) i ≡ Some pair → PairRepresents k v native.key native.value c (slice_index (positions c) i) pair
    nth_written i pair is =
        let many = length-map pairs new in
        let inside : i < length pairs = omega (arith, many, slice_get_within (map new pairs) i pair is) in
        let old : A × B = get_or pairs i pair in
        let at_i : slice_get pairs i ≡ Some old = slice_get-get_or pairs i pair inside in
        let pair_is : new old ≡ pair = same_Some (new old) pair (ap (option_map new) (sym at_i) ∙ sym (slice_get-map new pairs i) ∙ is) in
        let home : i < length st.homes = omega (arith, inside, homes_count st) in
        let there : IsWalked w b p (slice_index st.homes i) = home_walked w b p (map (native.key_hash b) (positions b)) st.homes st.written i home in
        let before : PairRepresents k v native.key native.value b (at (slice_index st.homes i)) old =
        subst (λ q. PairRepresents k v native.key native.value b q old) (home_pos w (entry_spec k v).size b p st.homes i home) (st.at i old at_i) in
        let place : at (slice_index st.homes i) ≡ slice_index (positions c) i =
        sym (home_pos w (entry_spec k v).size c p st.homes i home ∙ kept.table.lookups.pos (slice_index st.homes i)) in
        subst₂ (λ q x. PairRepresents k v native.key native.value c q x) place pair_is (pair_written (slice_index st.homes i) old there before)

    pub list_written : MapRepresents w k v native.key native.value native.key_hash factor c p (map new pairs)
    list_written =
        let header = kept.table.header in
        let many : length (map new pairs) ≡ length pairs = length-map pairs new in
        record {
          homes = st.homes;
          written = kept.written st.homes st.written;
          len = sym (len_same w b c p header) ∙ st.len ∙ sym many;
          cap = sym (cap_same w b c p header) ∙ st.cap ∙ ap (λ n. capacity n factor) (sym many);
          at = nth_written;
        }
