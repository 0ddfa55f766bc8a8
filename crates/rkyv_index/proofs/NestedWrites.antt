-- A write among the parts of one value keeps the index map, and its list but for that value.
use Rattle.std.proofs.Common.{◌≡◌, ◌≢◌, ◌∙◌, ℕ, ◌+◌, ◌-◌, ◌*◌, ◌<◌, ◌≤◌, inl, inr, refl, sym, ap, subst, arith, Bool, true, filter, List, Some}
use Rattle.std.specs.Prelude.{slice_get, slice_set, unsigned_abs}
use Rattle.std.specs.Int.{Width, byte_len}
use Rattle.std.specs.List.{range_with_len}
use Rattle.std.proofs.lemmas.Bool.{cases_eq}
use Rattle.rkyv_base.specs.{AgreeOn, ElementSpec, IsArchiveWord, IsElement, RepresentsLocally, StaysValid, Viewable, entry_spec, number_at, value_pos}
use Rattle.rkyv_base.specs.Lemmas.Bytes.{agree_on_part}
use Rattle.rkyv_base.specs.Lemmas.Entry.{entry_element}
use Rattle.rkyv_base.proofs.Sealing.{sealed_wider, viewable_kept}
use Rattle.rkyv_keys.specs.{HashLocal}
use Rattle.rkyv_table.specs.{AreValidAt, IsValidBefore, StaysAt, WritesAmongParts, len_at}
use Rattle.rkyv_table.specs.Lemmas.SameHeader.{item_same}
use Rattle.rkyv_table.specs.Lemmas.TableLaws.{table_element}
use Rattle.rkyv_table.specs.Lemmas.ValidItemLaws.{all_between}
use Rattle.rkyv_table.proofs.NestedEntries.{entry_written, key_of_other, key_of_own, represents_on, value_of_other}
use Rattle.rkyv_table.proofs.NestedItems.{above_same, items_kept, other_stays, own_before, sealed_parts}
use Rattle.rkyv_index.specs.{EntriesIn, IndexRepresents, IsValidIndex, KeepsOuterIndexMap, decode_entries, entries_pos, entry_at, index_spec, indices_of, pair_pos, stored_index_spec}
use Rattle.rkyv_index.specs.Lemmas.IndexLaws.{filter_every, head_same, index_again, stored_index_element}
use Rattle.rkyv_index.proofs.SameIndex.{controls_same, entry_before, lookup_same, new_value_represents, positions_same, read_same, some_buckets, table_below, written_same}

module _ (w : Width) (kind : IsArchiveWord w) (k v : ElementSpec) (kl : IsElement k) (vl : IsElement v) (b : List ℕ) (p : ℕ) (view : Viewable (index_spec w (entry_spec k v)) b p)
    (c : List ℕ) (i : ℕ) (below : i < len_at w b p) (writes : WritesAmongParts v b c (value_pos k v (pair_pos w (entry_spec k v).size b p i))) where
  abbrev S : ElementSpec
  S = entry_spec k v

  abbrev law : IsElement S
  law = entry_element k v kl vl

  abbrev n : ℕ
  n = len_at w b p

  abbrev begin : ℕ
  begin = entries_pos w b p

  abbrev at : ℕ → ℕ
  at = pair_pos w S.size b p

  abbrev valid : IsValidIndex w S b p 0 p view.valid.0
  valid = view.valid.1

  abbrev all : ℕ → Bool
  all = λ j. true

  up : (j : ℕ) → begin ≤ at j
  up j = omega arith

  -- the entries between any limits, as valid items in order
  abbrev InOrder : List ℕ → ℕ → ℕ → Type 0
  InOrder d lo l = AreValidAt S at d begin (filter all (range_with_len 0 n)) lo l

  begin_of : (lo hi l : ℕ) (h : EntriesIn S b (decode_entries w b p) n lo hi l) → begin ≡ h.begin
  begin_of lo hi l h = ap unsigned_abs (sym h.part.begins)

  in_order : (lo hi l : ℕ) (h : EntriesIn S b (decode_entries w b p) n lo hi l) → InOrder b lo h.last
  in_order lo hi l h =
      subst (λ (xs : List ℕ). AreValidAt S at b begin xs lo h.last) (sym (filter_every (indices_of n)))
      (subst (λ m. AreValidAt S (entry_at S.size m) b m (indices_of n) lo h.last) (sym (begin_of lo hi l h)) h.valid)

  abbrev entry : WritesAmongParts S b c (at i)
  entry = entry_written k v kl vl b c (at i) writes

  abbrev order : InOrder b valid.middle valid.entries.last
  order = in_order valid.middle p view.valid.0 valid.entries

  abbrev middle_below : valid.middle ≤ begin
  middle_below = table_below w kind k v kl vl b p view

  -- from the begin of the entries on, all bytes are the same
  entries_same : (x y : ℕ) → x ≤ y → begin ≤ x → AgreeOn b c x y
  entries_same = above_same S law at all b c begin n valid.middle valid.entries.last middle_below order up i below refl entry

  header_same : AgreeOn b c p (p + 4 * byte_len w)
  header_same = let e = entry_before w kind k v kl vl b p view i below in entries_same p (p + 4 * byte_len w) (omega arith) (omega (arith, e))

  -- the items between any limits stay valid, and the bytes before their parts are the same
  kept : (lo hi l : ℕ) (h : EntriesIn S b (decode_entries w b p) n lo hi l) → InOrder c lo h.last × AgreeOn b c 0 lo
  kept lo hi l h =
      let above = h.part.above in
      items_kept S law at all b c begin n lo h.last (omega (arith, above, begin_of lo hi l h)) (in_order lo hi l h) up i below refl entry

  front_same : AgreeOn b c 0 valid.middle
  front_same = (kept valid.middle p view.valid.0 valid.entries).1

  entries_are_valid : (lo hi l : ℕ) → EntriesIn S b (decode_entries w b p) n lo hi l → EntriesIn S c (decode_entries w b p) n lo hi l
  entries_are_valid lo hi l h = record {
    begin = h.begin;
    part = h.part;
    last = h.last;
    valid =
        subst (λ m. AreValidAt S (entry_at S.size m) c m (indices_of n) lo h.last) (begin_of lo hi l h)
        (subst (λ (xs : List ℕ). AreValidAt S at c begin xs lo h.last) (filter_every (indices_of n)) (kept lo hi l h).0);
    ends = h.ends;
  }

  table_between : (lo hi l : ℕ) → lo ≤ hi → (h : IsValidIndex w S b p lo hi l) → (lo ≤ h.middle) × (h.middle ≤ hi)
  table_between lo hi l o h = (table_element w kind (stored_index_spec w) (stored_index_element w kind)).rest_in_range b p lo hi h.middle o h.table

  index_is_valid : StaysValid (index_spec w S) b c p
  index_is_valid lo hi l o o' h =
      index_again w kind S law b c p lo hi l o header_same h
      (agree_on_part b c 0 h.middle lo h.middle (omega arith) (omega arith) (table_between lo hi l o h).0 (kept h.middle hi l h.entries).1)
      (entries_are_valid h.middle hi l h.entries)

  -- the write is among the parts of the index map
  index_nested : WritesAmongParts (index_spec w S) b c p
  index_nested = record {
    is_valid = index_is_valid;
    sealed = λ lo hi l o o' h.
        let t = table_between lo hi l o h in
        let last = h.entries.last in
        let above = h.entries.part.above in
        let ends = h.entries.ends in
        let is = begin_of h.middle hi l h.entries in
        let low : h.middle ≤ begin = omega (arith, above, is) in
        let x = all_between S law at b begin (filter all (range_with_len 0 n)) h.middle last low (in_order h.middle hi l h.entries) in
        sealed_wider b c h.middle (last - h.middle) lo (l - lo) t.0 (omega (arith, t.0, x.0, x.1, ends, is))
        (sealed_parts S law at all b c begin n h.middle last low (in_order h.middle hi l h.entries) up i below refl entry);
  }

  own : IsValidBefore S b (at i)
  own = own_before S law at all b c begin n valid.middle valid.entries.last middle_below order up i below refl entry

  other : (j : ℕ) → j < n → j ≢ i → StaysAt S b c (at j)
  other j there ne = other_stays S law at all b c begin n valid.middle valid.entries.last middle_below order up i below refl entry j there refl ne

  key_stays : (j : ℕ) → j < n → StaysAt k b c (at j)
  key_stays j there = elim (cases_eq j i) [
    | inl e ↦ subst (λ m. StaysAt k b c (at m)) (sym e) (key_of_own k v kl vl b c (at i) writes own)
    | inr ne ↦ key_of_other k v kl vl b c (at j) (other j there ne)
  ]

  value_stays : (j : ℕ) → j < n → j ≢ i → StaysAt v b c (value_pos k v (at j))
  value_stays j there ne = value_of_other k v kl vl b c (at j) (other j there ne)

  module _ (key_hash : List ℕ → ℕ → ℕ) (local : HashLocal k key_hash) where
    hash_stays : (j : ℕ) → j < n → key_hash c (at j) ≡ key_hash b (at j)
    hash_stays j there = let h = key_stays j there in sym (local b c (at j) h.valid.lower h.valid.upper h.valid.rest h.valid.order h.valid.is_valid h.fixed h.parts)

    pub nested_kept : KeepsOuterIndexMap w k v key_hash b c p i
    nested_kept = record {
      valid = viewable_kept (index_spec w S) b c p (index_nested.sealed 0 p view.valid.0 (omega arith) (omega arith) valid).same_length index_is_valid view;
      nested = index_nested;
      header = header_same;
      controls = sym (controls_same w kind k v kl vl b p view c header_same front_same (some_buckets w kind k v kl vl b p view i below));
      indices = λ q there.
          ap (number_at w c) (there.2 ∙ item_same w b c p (head_same w b c p header_same) (byte_len w) there.0)
          ∙ sym (read_same w kind k v kl vl b p view c header_same front_same there.0 there.1)
          ∙ ap (number_at w b) (sym there.2);
      positions = positions_same w kind k v kl vl b p view c header_same front_same;
      keys = key_stays;
      values = value_stays;
      hashes = hash_stays;
      lookups = λ hash fits small rests.
          lookup_same w kind k v kl vl b p view c header_same front_same i below hash small fits (λ j there. rests b c (at j) (key_stays j there));
      written = written_same w kind k v kl vl b p view c header_same front_same key_hash hash_stays;
    }

    pub nested_represents : {A B : Type 0} (key : List ℕ → ℕ → A → Type 0) (value : List ℕ → ℕ → B → Type 0) → RepresentsLocally k key → RepresentsLocally v value → (factor : ℕ × ℕ)
        (pairs : List (A × B)) (pair : A × B) (new : B) → IndexRepresents w k v key value key_hash factor b p pairs → slice_get pairs i ≡ Some pair → value c (value_pos k v (at i)) new
        → IndexRepresents w k v key value key_hash factor c p (slice_set pairs i (pair.0, new))
    nested_represents key value kn vn factor pairs pair new st at_i represents =
        new_value_represents w kind k v kl vl b p view c header_same front_same key_hash hash_stays key value factor pairs st i pair (pair.0, new) at_i
        (represents_on k key kn pair.0 b c (at i) (key_stays i below) (st.at i pair at_i).0, represents)
        (λ j x there at_j ne.
        let before = st.at j x at_j in
        (represents_on k key kn x.0 b c (at j) (key_stays j there) before.0, represents_on v value vn x.1 b c (value_pos k v (at j)) (value_stays j there ne) before.1))
