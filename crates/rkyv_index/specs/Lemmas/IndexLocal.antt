-- Index maps in two archives that have the same bytes.
use Rattle.std.proofs.Common.{◌≡◌, ℕ, ◌+◌, ◌*◌, ◌<◌, ◌≤◌, sym, ap, subst, ◌∙◌, arith}
use Rattle.std.proofs.lemmas.Grind.{common_steps}
use Rattle.std.proofs.Common.{List, length, map, slice_index}
use Rattle.std.specs.Prelude.{unsigned_abs}
use Rattle.std.specs.Int.{Width, byte_len}
use Rattle.std.proofs.lemmas.List.{ext_get_or, get_or-map, length-map}
use Rattle.std.proofs.lemmas.List.FromFn.{get_or-range_with_len, length-range_with_len}
use Rattle.rkyv_scan.specs.{Hasher, HasherCall, hash_of_calls}
use Rattle.rkyv_base.specs.{AgreeOn, ElementSpec, IsArchiveWord, IsElement, PairRepresents}
use Rattle.rkyv_base.specs.{RepresentsLocally, entry_spec, number_at}
use Rattle.rkyv_base.specs.Lemmas.Bytes.{agree_on_part}
use Rattle.rkyv_base.specs.Lemmas.Entry.{entry_element, same_key}
use Rattle.rkyv_base.specs.Lemmas.Pairs.{pair_local}
use Rattle.rkyv_keys.specs.{Comparison, HashLocal, IsKey, hash_at}
use Rattle.rkyv_table.specs.{IsValidWithin, IsWalked, WrittenAt, cap_at, home_positions, item_at}
use Rattle.rkyv_table.specs.{len_at, table_controls}
use Rattle.rkyv_table.specs.Lemmas.ValidItemLaws.{all_between}
use Rattle.rkyv_table.specs.Lemmas.SameHeader.{cap_same, len_same}
use Rattle.rkyv_table.specs.Lemmas.SameControls.{same_controls}
use Rattle.rkyv_table.proofs.SameTable.{written_there}
use Rattle.rkyv_table.proofs.WrittenTables.{home_pos, home_walked}
use Rattle.rkyv_index.specs.{IndexRepresents, IndexWrittenAt, IsValidIndex, entries_pos, entry_at}
use Rattle.rkyv_index.specs.{index_spec, indices_of, pair_pos, stored_index_spec}
use Rattle.rkyv_index.specs.Lemmas.IndexLaws.{each_is_valid, entry_inside, stored_index_element}
use Rattle.rkyv_index.specs.Lemmas.IndexLaws.{decoded_same, head_same, index_same_at, listed_below}

-- An index map that was written in `b` under the hashes `key_hash` was also written in `c` under
-- `hash_after`. Both have the same header of the table at `p`, and the same control bytes if it has
-- buckets. The numbers in full buckets and the hashes of the keys are the same.
module _ (w : Width) (size : ℕ) (key_hash hash_after : List ℕ → ℕ → ℕ) (b c : List ℕ) (p : ℕ)
    (head : AgreeOn b c p (p + 3 * byte_len w))
    (controls : 0 < cap_at w b p → table_controls w b p ≡ table_controls w c p)
    (read : (i : ℕ) → IsWalked w b p i → number_at w b (item_at w (byte_len w) b p i)
    ≡ number_at w c (item_at w (byte_len w) c p i))
    (same_hash : (i : ℕ) → i < len_at w b p → key_hash b (pair_pos w size b p i)
    ≡ hash_after c (pair_pos w size c p i)) where
  abbrev hashes_in : (List ℕ → ℕ → ℕ) → List ℕ → List ℕ
  hashes_in hash d = map (λ i. hash d (pair_pos w size d p i)) (indices_of (len_at w d p))

  len_is : len_at w b p ≡ len_at w c p
  len_is = len_same w b c p head

  same_hashes : hashes_in key_hash b ≡ hashes_in hash_after c
  same_hashes =
      let n = len_at w b p in
      let is = indices_of n in
      let count = length-range_with_len 0 n in
      let f : ℕ → ℕ = λ i. key_hash b (pair_pos w size b p i) in
      let g : ℕ → ℕ = λ i. hash_after c (pair_pos w size c p i) in
      ext_get_or 0 (map f is) (map g is) (length-map is f ∙ sym (length-map is g))
      (λ i below.
      let inside : i < n = omega (arith, below, length-map is f, count) in
      grind (
        arith,
        common_steps,
        get_or-range_with_len 0 n i 0 inside,
        same_hash i inside,
        get_or-map,
      ))
      ∙ ap (λ m. map g (indices_of m)) len_is

  same_indices : (homes : List ℕ) → IndexWrittenAt w size key_hash b p homes
      → map (number_at w c) (home_positions w (byte_len w) c p homes) ≡ indices_of (len_at w c p)
  same_indices homes written =
      let hb = home_positions w (byte_len w) b p homes in
      let hc = home_positions w (byte_len w) c p homes in
      let nb : length hb ≡ length homes = length-map homes (item_at w (byte_len w) b p) in
      let nc : length hc ≡ length homes = length-map homes (item_at w (byte_len w) c p) in
      ext_get_or 0 (map (number_at w c) hc) (map (number_at w b) hb)
      (length-map hc (number_at w c) ∙ nc ∙ sym nb ∙ sym (length-map hb (number_at w b)))
      (λ i below.
      let n : i < length homes = omega (arith, below, length-map hc (number_at w c), nc) in
      let walked = home_walked w b p (hashes_in key_hash b) homes written.table i n in
      get_or-map (number_at w c) hc i 0 0 (omega (arith, n, nc)) ∙ ap (number_at w c)
      (home_pos w (byte_len w) c p homes i n) ∙ sym (read (slice_index homes i) walked)
      ∙ ap (number_at w b) (sym (home_pos w (byte_len w) b p homes i n))
      ∙ sym (get_or-map (number_at w b) hb i 0 0 (omega (arith, n, nb))))
      ∙ written.indices ∙ ap indices_of len_is

  pub written_again : (homes : List ℕ) → IndexWrittenAt w size key_hash b p homes
      → IndexWrittenAt w size hash_after c p homes
  written_again homes written = record {
    table = subst (λ (xs : List ℕ). WrittenAt w c p xs homes) same_hashes
        (written_there w b c p head controls (hashes_in key_hash b) homes written.table);
    indices = same_indices homes written;
  }

module _ (w : Width) (kind : IsArchiveWord w) (k v : ElementSpec) (kl : IsElement k)
    (vl : IsElement v)
    {A B : Type 0} (key : List ℕ → ℕ → A → Type 0) (value : List ℕ → ℕ → B → Type 0)
    (hash : List ℕ → ℕ
    → ℕ) (factor : ℕ × ℕ) (local : HashLocal k hash) (kn : RepresentsLocally k key)
    (vn : RepresentsLocally v value) (pairs : List (A × B)) (b c : List ℕ) (p lo hi l : ℕ)
    (o : lo ≤ hi) where
  abbrev S : ElementSpec
  S = entry_spec k v

  abbrev law : IsElement S
  law = entry_element k v kl vl

  module _ (h : IsValidIndex w S b p lo hi l) (fixed : AgreeOn b c p (p + 4 * byte_len w))
      (part : AgreeOn b c lo l) (st : IndexRepresents w k v key value hash factor b p pairs) where
    head : AgreeOn b c p (p + 3 * byte_len w)
    head = head_same w b c p fixed

    same_pos : (i : ℕ) → pair_pos w S.size b p i ≡ pair_pos w S.size c p i
    same_pos i = ap (λ z. entry_at S.size (unsigned_abs z) i) (decoded_same w b c p fixed)

    same_len : len_at w b p ≡ len_at w c p
    same_len = len_same w b c p head

    same_cap : cap_at w b p ≡ cap_at w c p
    same_cap = cap_same w b c p head

    begin_is : entries_pos w b p ≡ h.entries.begin
    begin_is = ap unsigned_abs (sym h.entries.part.begins)

    table_ends : (lo ≤ h.middle) × (h.middle ≤ hi)
    table_ends = grind (arith, common_steps)

    last_ends : (h.middle ≤ h.entries.last) × (h.entries.last ≤ h.entries.begin)
    last_ends = all_between S law (entry_at S.size h.entries.begin) b h.entries.begin
        (indices_of (len_at w b p)) h.middle h.entries.last h.entries.part.above h.entries.valid

    -- each entry is valid, and inside the part
    entry_there : (i : ℕ) → i < len_at w b p
        → IsValidWithin S b (pair_pos w S.size b p i) h.middle h.entries.begin h.entries.last
        × (h.entries.begin ≤ pair_pos w S.size b p i) × (pair_pos w S.size b p i + S.size ≤ l)
    entry_there i below =
        grind (
          arith,
          common_steps,
          each_is_valid S law (entry_at S.size h.entries.begin) b h.entries.begin 0 (len_at w b p)
              h.middle h.entries.last i h.entries.part.above h.entries.valid (omega arith)
              (omega arith),
          entry_inside S.size h.entries.begin (len_at w b p) i below,
          begin_is,
        )

    module _ (i : ℕ) (below : i < len_at w b p) where
      abbrev q : ℕ
      q = pair_pos w S.size b p i

      same_entry : AgreeOn b c q (q + S.size)
      same_entry =
          let r = entry_there i below in
          let above = h.entries.part.above in
          agree_on_part b c lo l q (q + S.size) (omega (arith, r.1, above, table_ends)) r.2
          (omega arith) part

      same_hash : hash b q ≡ hash c q
      same_hash =
          let r = (entry_there i below).0 in
          let e = r.is_valid in
          let x = kl.rest_in_range b q r.lower h.entries.begin e.1 r.below e.2 in
          let y = vl.rest_in_range b _ e.1 h.entries.begin r.rest x.1 e.3 in
          let ends = h.entries.ends in
          local b c q r.lower h.entries.begin e.1 r.below e.2
          (same_key k v kl vl b c q e.0 same_entry)
          (agree_on_part b c lo l r.lower e.1 (omega (arith, r.above, table_ends))
          (omega (arith, x.1, ends)) x.0 part)

      same_pair : (pair : A × B) → PairRepresents k v key value b q pair
          → PairRepresents k v key value c q pair
      same_pair pair there =
          let r = (entry_there i below).0 in
          let x = law.rest_in_range b q r.lower h.entries.begin r.rest r.below r.is_valid in
          let ends = h.entries.ends in
          let within = r.ends in
          pair_local k v kl vl key value kn vn pair b c q r.lower h.entries.begin r.rest r.below
          r.is_valid same_entry
          (agree_on_part b c lo l r.lower r.rest (omega (arith, r.above, table_ends))
          (omega (arith, within, last_ends, ends)) x.0 part) there

    table_local : AgreeOn b c lo h.middle
    table_local = grind (arith, agree_on_part, table_ends)

    represents_again : IndexRepresents w k v key value hash factor c p pairs
    represents_again = record {
      homes = st.homes;
      written =
          written_again w S.size hash hash b c p head
          (same_controls w (stored_index_spec w) (stored_index_element w kind) b c p lo hi
          h.middle o h.table head table_local)
          (index_same_at w kind b c p lo hi h.middle o head table_local h.table)
          (λ i below. same_hash i below ∙ ap (hash c) (same_pos i)) st.homes st.written;
      len = sym same_len ∙ st.len;
      cap = sym same_cap ∙ st.cap;
      at = λ i pair e.
          let below = listed_below pairs (len_at w b p) i pair st.len e in
          subst (λ z. PairRepresents k v key value c z pair) (same_pos i)
          (same_pair i below pair (st.at i pair e));
    }

module _ {State : Type 0} (hasher : Hasher State)
    (w : Width) (kind : IsArchiveWord w) {k v : ElementSpec} (kl : IsElement k) (vl : IsElement v)
    {A B : Type 0} {key : List ℕ → ℕ → A → Type 0} {value : List ℕ → ℕ → B → Type 0}
    {same : Comparison} {key_calls : List ℕ → ℕ → List HasherCall} (factor : ℕ × ℕ) where
  -- the list that an index map represents depends only on the bytes of its header and its parts
  pub index_represents_local : IsKey k same key_calls → RepresentsLocally k key
      → RepresentsLocally v value
      → RepresentsLocally (index_spec w (entry_spec k v)) (IndexRepresents w k v key value
      (hash_at hasher key_calls) factor)
  index_represents_local key_law kn vn pairs b c p lo hi l o h fixed part st =
      represents_again w kind k v kl vl key value (hash_at hasher key_calls) factor
      (λ b' c' q lo' hi' l' o' h' fixed' part'. ap (hash_of_calls hasher)
      (key_law.local b' c' q lo' hi' l' o' h' fixed' part')) kn vn pairs b c p lo hi l o h fixed
      part st
