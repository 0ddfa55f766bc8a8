-- A write of one value in place keeps the index map, and its list but for that value.
use Rattle.std.proofs.lemmas.Grind.{common_steps}
use Rattle.std.proofs.Common.{◌≡◌, ◌≢◌, ℕ, suc, ◌+◌, ◌-◌, ◌*◌, ◌<◌, ◌≤◌, ◌^◌, inl, inr, sym, ap, subst, arith, Bool, List, Some, rules}
use Rattle.std.specs.Prelude.{slice_get, slice_set, unsigned_abs}
use Rattle.std.specs.Int.{Width, byte_len}
use Rattle.std.proofs.Math.Nat.{mul-le-mul_right}
use Rattle.std.proofs.lemmas.Bool.{cases_eq, cases_lt}
use Rattle.rkyv_base.specs.{AgreeOn, ElementSpec, IsArchiveWord, IsElement, ModifiesOnly, Outside, PairRepresents, RepresentsLocally, StaysValid, Viewable, entry_spec, value_pos, whole_size}
use Rattle.rkyv_base.specs.Lemmas.Entry.{entry_element, key_and_value_inside, same_key, size_of_small, viewable_key, viewable_value}
use Rattle.rkyv_base.specs.Lemmas.Pairs.{pair_local}
use Rattle.rkyv_base.proofs.Sealing.{entry_kept, same_outside, sealed_wider, viewable_kept}
use Rattle.rkyv_keys.specs.{HashLocal, RestsOnKeys}
use Rattle.rkyv_table.specs.{IsValidWithin, RestsOnKey, RestsOnParts, SameValue, WritesAmongParts, WritesValue, len_at}
use Rattle.rkyv_table.specs.Lemmas.SameHeader.{len_same}
use Rattle.rkyv_table.specs.Lemmas.TableLaws.{table_element}
use Rattle.rkyv_table.proofs.SealedTable.{all_kept, parts_below}
use Rattle.rkyv_index.specs.{EntriesIn, IndexRepresents, IsPairPos, IsValidIndex, KeepsEntries, KeepsIndexMap, decode_entries, entries_pos, entry_at, fits_in, index_found, index_kind, index_spec, indices_of, pair_pos, stored_index_spec}
use Rattle.rkyv_index.specs.Lemmas.IndexLaws.{entry_inside, head_same, index_again, indices_below, stored_index_element}
use Rattle.rkyv_index.proofs.SameIndex.{entry_before, entry_parts, entry_there, lookup_same, new_value_represents, positions_same, table_below, written_same}

-- a write at the position of the value of a pair writes the value of that pair
pub value_written : {k v : ElementSpec} {b c : List ℕ} {at q : ℕ} → at ≡ value_pos k v q → ModifiesOnly b at v.size c → StaysValid v b c at → WritesValue k v b c q
value_written {v = v} {b} {c} is sealed keeps = record { sealed = subst (λ n. ModifiesOnly b n v.size c) is sealed; keeps = subst (StaysValid v b c) is keeps }

-- two entries share no byte
entries_apart : (size begin i j : ℕ) → j ≢ i → Outside (entry_at size begin i) size (entry_at size begin j) (entry_at size begin j + size)
entries_apart size begin i j ne = elim (cases_lt i j) [
  | inl l ↦ let m : (suc i) * size ≤ j * size = mul-le-mul_right size (omega arith) in inr (omega (arith, m))
  | inr g ↦
      let less : j < i = omega (arith, ne, g) in
      let m : (suc j) * size ≤ i * size = mul-le-mul_right size (omega arith) in
      inl (omega (arith, m))
]

module _ (w : Width) (kind : IsArchiveWord w) (k v : ElementSpec) (kl : IsElement k) (vl : IsElement v) (b : List ℕ) (p : ℕ) (view : Viewable (index_spec w (entry_spec k v)) b p) where
  abbrev S : ElementSpec
  S = entry_spec k v

  abbrev law : IsElement S
  law = entry_element k v kl vl

  abbrev at : ℕ → ℕ
  at = pair_pos w S.size b p

  abbrev valid : IsValidIndex w S b p 0 p view.valid.0
  valid = view.valid.1

  abbrev entry : (i : ℕ) → i < len_at w b p → Viewable S b (at i)
  entry = entry_there w kind k v kl vl b p view

  abbrev parts_of : (i : ℕ) → i < len_at w b p → IsValidWithin S b (at i) valid.middle (entries_pos w b p) valid.entries.last
  parts_of = entry_parts w kind k v kl vl b p view

  -- the value at index `i` is written
  module _ (c : List ℕ) (i : ℕ) (below : i < len_at w b p) (writes : WritesValue k v b c (at i)) where
    wider : ModifiesOnly b (at i) S.size c
    wider =
        let small = size_of_small (whole_size k v) (entry i below).valid.1.0 in
        let inside = key_and_value_inside k v in
        sealed_wider b c (value_pos k v (at i)) v.size (at i) S.size (omega arith) (omega (arith, small, inside.1)) writes.sealed

    entry_keeps : StaysValid S b c (at i)
    entry_keeps = entry_kept k v kl vl b c (at i) writes.sealed writes.keeps

    front_same : (x y : ℕ) → x ≤ y → y ≤ entries_pos w b p → AgreeOn b c x y
    front_same x y o h = same_outside b (at i) S.size c wider x y o (inl (omega (arith, h)))

    header_same : AgreeOn b c p (p + 4 * byte_len w)
    header_same = let e = entry_before w kind k v kl vl b p view i below in same_outside b (at i) S.size c wider p (p + 4 * byte_len w) (omega arith) (inr (omega (arith, e)))

    head : AgreeOn b c p (p + 3 * byte_len w)
    head = head_same w b c p header_same

    entries_are_valid : (lo hi l : ℕ) → EntriesIn S b (decode_entries w b p) (len_at w b p) lo hi l → EntriesIn S c (decode_entries w b p) (len_at w b p) lo hi l
    entries_are_valid lo hi l h =
        let n = len_at w b p in
        let begin = h.begin in
        let is : entries_pos w b p ≡ begin = ap unsigned_abs (sym h.part.begins) in
        record {
          begin = begin;
          part = h.part;
          last = h.last;
          valid = all_kept S law (entry_at S.size begin) b c n begin i
              (subst (λ m. ModifiesOnly b (entry_at S.size m i) S.size c) is wider) (subst (λ m. StaysValid S b c (entry_at S.size m i)) is entry_keeps)
              (omega arith) (λ j less ne. entries_apart S.size begin i j ne) (indices_of n) lo h.last h.part.above (indices_below n) h.valid;
          ends = h.ends;
        }

    index_is_valid : StaysValid (index_spec w S) b c p
    index_is_valid lo hi l o o' h =
        let t = (table_element w kind (stored_index_spec w) (stored_index_element w kind)).rest_in_range b p lo hi h.middle o h.table in
        let is : entries_pos w b p ≡ h.entries.begin = ap unsigned_abs (sym h.entries.part.begins) in
        let above = h.entries.part.above in
        index_again w kind S law b c p lo hi l o header_same h (front_same lo h.middle t.0 (omega (arith, above, is))) (entries_are_valid h.middle hi l h.entries)

    entry_same : (j : ℕ) → j ≢ i → AgreeOn b c (at j) (at j + S.size)
    entry_same j ne = same_outside b (at i) S.size c wider (at j) (at j + S.size) (omega arith) (entries_apart S.size (entries_pos w b p) i j ne)

    other_same : (j : ℕ) → j < len_at w b p → j ≢ i → SameValue S b c (at j)
    other_same j there ne =
        let r = parts_of j there in
        record {
          fixed = entry_same j ne;
          parts = λ l h. front_same 0 l (omega arith) (parts_below S law b (at j) r.lower (entries_pos w b p) r.rest l r.below (omega arith) r.is_valid h);
        }

    key_fixed : (j : ℕ) → j < len_at w b p → AgreeOn b c (at j) (at j + k.size)
    key_fixed j there = elim (cases_eq j i) [
      | inl e ↦ grind (arith, common_steps, key_and_value_inside, same_outside)
      | inr ne ↦ same_key k v kl vl b c (at j) (entry j there).valid.1.0 (entry_same j ne)
    ]

    key_same : (j : ℕ) → j < len_at w b p → SameValue k b c (at j)
    key_same j there =
        let r = parts_of j there in
        record {
          fixed = key_fixed j there;
          parts = λ l h. front_same 0 l (omega arith) (parts_below k kl b (at j) r.lower (entries_pos w b p) r.is_valid.1 l r.below (omega arith) r.is_valid.2 h);
        }

    pub entries_kept : KeepsEntries w k v b c p i
    entries_kept = search (rules, index_is_valid, header_same, front_same, key_same, other_same)

    -- ---- lookups

    indices_same : AgreeOn b c 0 valid.middle
    indices_same = front_same 0 valid.middle (omega arith) (table_below w kind k v kl vl b p view)

    same_positions : (j : ℕ) → pair_pos w S.size c p j ≡ at j
    same_positions = positions_same w kind k v kl vl b p view c header_same indices_same

    lookup_there : (hash : ℕ) (fits : List ℕ → ℕ → Bool) → hash < 2 ^ 64 → RestsOnKey k fits
        → index_found w c p hash (fits_in w k v c p fits) ≡ index_found w b p hash (fits_in w k v b p fits)
    lookup_there hash fits small rests =
        lookup_same w kind k v kl vl b p view c header_same indices_same i below hash small fits
        (λ j there. rests b c (at j) (viewable_key k v kl vl b (at j) (entry j there)).valid (key_same j there))

    -- ---- written index maps, and index maps that represent a list

    module _ (key_hash : List ℕ → ℕ → ℕ) (local : HashLocal k key_hash) where
      hash_same : (j : ℕ) → j < len_at w b p → key_hash c (at j) ≡ key_hash b (at j)
      hash_same j there = grind (arith, common_steps, viewable_key k v kl vl b (at j) (entry j there), key_same j there)

      pub index_kept : KeepsIndexMap (index_kind w k v key_hash) b c p i
      index_kept = record {
        entries = entries_kept;
        valid = viewable_kept (index_spec w S) b c p writes.sealed.same_length index_is_valid view;
        len = sym (len_same w b c p head);
        positions = same_positions;
        hashes = hash_same;
        lookups = lookup_there;
        written = written_same w kind k v kl vl b p view c header_same indices_same key_hash hash_same;
      }

      module _ {A B : Type 0} (key : List ℕ → ℕ → A → Type 0) (value : List ℕ → ℕ → B → Type 0) (kn : RepresentsLocally k key) (vn : RepresentsLocally v value) (factor : ℕ × ℕ) (pairs : List (A × B))
          (pair : A × B) (new : B) (st : IndexRepresents w k v key value key_hash factor b p pairs) (at_i : slice_get pairs i ≡ Some pair) (represents : value c (value_pos k v (at i)) new) where
        -- the written pair has the new value, and each other pair is unchanged
        written_represents : PairRepresents k v key value c (at i) (pair.0, new)
        written_represents = grind (arith, common_steps, viewable_key k v kl vl b (at i) (entry i below), key_same i below)

        other_represents : (j : ℕ) (x : A × B) → j < len_at w b p → slice_get pairs j ≡ Some x → j ≢ i → PairRepresents k v key value c (at j) x
        other_represents j x there at_j ne =
            let here = entry j there in
            let same = other_same j there ne in
            pair_local k v kl vl key value kn vn x b c (at j) 0 (at j) here.valid.0 (omega arith) here.valid.1 same.fixed (same.parts here.valid.0 here.valid.1) (st.at j x at_j)

        pub written_value_represents : IndexRepresents w k v key value key_hash factor c p (slice_set pairs i (pair.0, new))
        written_value_represents =
            new_value_represents w kind k v kl vl b p view c header_same indices_same key_hash hash_same key value factor pairs st i pair (pair.0, new) at_i written_represents
            other_represents

    -- the write is among the parts of the index map
    pub value_nested : WritesAmongParts (index_spec w S) b c p
    value_nested = record {
      is_valid = index_is_valid;
      sealed = λ lo hi l o o' h.
          let is : entries_pos w b p ≡ h.entries.begin = ap unsigned_abs (sym h.entries.part.begins) in
          let t = (table_element w kind (stored_index_spec w) (stored_index_element w kind)).rest_in_range b p lo hi h.middle o h.table in
          let above = h.entries.part.above in
          let ends = h.entries.ends in
          let inside = entry_inside S.size h.entries.begin (len_at w b p) i below in
          sealed_wider b c (at i) S.size lo (l - lo) (omega (arith, t.0, above, is)) (omega (arith, t.0, above, ends, inside.1, is)) wider;
    }

  -- the pair at index `i`, whose value can be written
  pub pair_position : (i : ℕ) → i < len_at w b p → IsPairPos w k v b p i (at i)
  pair_position i below =
      let here = entry i below in
      search (rules, viewable_key, viewable_value, entries_kept)

-- a comparison that depends only on the keys depends only on each key and its parts
pub rests_on_parts : {Q : Type 0} (k : ElementSpec) (fits : Q → List ℕ → ℕ → Bool) → RestsOnKeys k fits → (q : Q) → RestsOnParts k (fits q)
rests_on_parts k fits rests q b c p h = rests q b c p h.valid.lower h.valid.upper h.valid.rest h.valid.order h.valid.before h.valid.is_valid h.fixed h.parts
