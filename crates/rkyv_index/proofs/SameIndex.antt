-- An index map whose header and table of indices are unchanged, and lookups in it.
use Rattle.std.proofs.Common.{◌≡◌, ◌≢◌, ℕ, ◌+◌, ◌*◌, ◌<◌, ◌≤◌, ◌^◌, ◌∙◌, sym, ap, subst, arith, Bool, List, Option, length, Some}
use Rattle.std.proofs.lemmas.Grind.{common_steps}
use Rattle.std.specs.Prelude.{slice_get, slice_set, unsigned_abs}
use Rattle.std.specs.Int.{Width, byte_len}
use Rattle.std.specs.Option.{option_map}
use Rattle.std.proofs.lemmas.List.{length-set}
use Rattle.std.proofs.lemmas.Option.{slice_get_within}
use Rattle.rkyv_scan.specs.{generic_kind}
use Rattle.rkyv_scan.specs.Lemmas.KindLaws.{word_lawful}
use Rattle.rkyv_base.specs.{AgreeOn, ElementSpec, IsArchiveWord, IsElement, PairRepresents, Viewable, entry_spec, number_at}
use Rattle.rkyv_base.specs.Lemmas.Entry.{entry_element}
use Rattle.rkyv_table.specs.{IsValidWithin, IsWalked, cap_at, capacity, found, item_at, len_at, table_controls, table_spec}
use Rattle.rkyv_table.specs.Lemmas.SameControls.{same_controls}
use Rattle.rkyv_table.specs.Lemmas.SameHeader.{cap_same, len_same}
use Rattle.rkyv_table.proofs.Lists.{set_each}
use Rattle.rkyv_table.proofs.Misplaced.{found_walked}
use Rattle.rkyv_table.proofs.SameLookups.{found_same}
use Rattle.rkyv_table.proofs.ValidTable.{controls_accepted, some_cap}
use Rattle.rkyv_table.proofs.Walks.{walked_full}
use Rattle.rkyv_index.specs.{IndexRepresents, IndexWrittenAt, IsValidIndex, entries_pos, entry_at, fits_in, index_found, index_spec, pair_pos, stored_index_spec}
use Rattle.rkyv_index.specs.Lemmas.IndexLaws.{decoded_same, each_is_valid, entry_inside, head_same, index_same_at, listed_below, stored_index_element}
use Rattle.rkyv_index.specs.Lemmas.IndexLocal.{written_again}
use Rattle.rkyv_index.proofs.ValidIndexMap.{begin_is, entries_inside, entry_viewable, index_below, table_there}

-- a found item is read alike if each item is
read_alike : (f g f' g' : ℕ → ℕ) (o : Option ℕ) → ((i : ℕ) → o ≡ Some i → f (g i) ≡ f' (g' i)) → option_map f (option_map g o) ≡ option_map f' (option_map g' o)
read_alike f g f' g' found same = grind (arith, common_steps)

module _ (w : Width) (kind : IsArchiveWord w) (k v : ElementSpec) (kl : IsElement k) (vl : IsElement v) (b : List ℕ) (p : ℕ) (view : Viewable (index_spec w (entry_spec k v)) b p) where
  abbrev S : ElementSpec
  S = entry_spec k v

  abbrev law : IsElement S
  law = entry_element k v kl vl

  abbrev at : ℕ → ℕ
  at = pair_pos w S.size b p

  abbrev valid : IsValidIndex w S b p 0 p view.valid.0
  valid = view.valid.1

  abbrev table : Viewable (table_spec w (stored_index_spec w)) b p
  table = table_there w kind S law b p view

  begins : entries_pos w b p ≡ valid.entries.begin
  begins = begin_is w kind S law b p view

  pub entry_there : (i : ℕ) → i < len_at w b p → Viewable S b (at i)
  entry_there i below = entry_viewable w kind S law b p view i below

  -- an entry is before the header
  pub entry_before : (i : ℕ) → i < len_at w b p → at i + S.size ≤ p
  entry_before i below = grind (arith, common_steps, entry_inside S.size (entries_pos w b p) (len_at w b p) i below, entries_inside w kind S law b p view)

  -- an entry is valid with its parts before the entries
  pub entry_parts : (i : ℕ) → i < len_at w b p → IsValidWithin S b (at i) valid.middle (entries_pos w b p) valid.entries.last
  entry_parts i below =
      let begin = valid.entries.begin in
      let r = each_is_valid S law (entry_at S.size begin) b begin 0 (len_at w b p) valid.middle valid.entries.last i valid.entries.part.above valid.entries.valid (omega arith) (omega (arith, below)) in
      subst (λ n. IsValidWithin S b (entry_at S.size n i) valid.middle n valid.entries.last) (sym begins) r

  -- the table is before the entries
  pub table_below : valid.middle ≤ entries_pos w b p
  table_below = let above = valid.entries.part.above in omega (arith, above, begins)

  pub some_buckets : (i : ℕ) → i < len_at w b p → 0 < cap_at w b p
  some_buckets i below = some_cap w (stored_index_spec w) (stored_index_element w kind) b p table (omega (arith, below))

  -- in `c` the header is the same, and the bytes up to the end of the table
  module _ (c : List ℕ) (header : AgreeOn b c p (p + 4 * byte_len w)) (front : AgreeOn b c 0 valid.middle) where
    head : AgreeOn b c p (p + 3 * byte_len w)
    head = head_same w b c p header

    pub positions_same : (j : ℕ) → pair_pos w S.size c p j ≡ at j
    positions_same j = ap (λ z. entry_at S.size (unsigned_abs z) j) (sym (decoded_same w b c p header))

    pub controls_same : 0 < cap_at w b p → table_controls w b p ≡ table_controls w c p
    controls_same = same_controls w (stored_index_spec w) (stored_index_element w kind) b c p 0 p valid.middle (omega arith) valid.table head front

    pub read_same : (j : ℕ) → IsWalked w b p j → number_at w b (item_at w (byte_len w) b p j) ≡ number_at w c (item_at w (byte_len w) c p j)
    read_same = index_same_at w kind b c p 0 p valid.middle (omega arith) head front valid.table

    -- if the map isn't empty, and a comparison accepts the same keys, a lookup finds the same index
    module _ (i : ℕ) (below : i < len_at w b p) (hash : ℕ) (small : hash < 2 ^ 64) (fits : List ℕ → ℕ → Bool) (same : (j : ℕ) → j < len_at w b p → fits c (at j) ≡ fits b (at j)) where
      abbrev index_in : List ℕ → ℕ → ℕ
      index_in d j = number_at w d (item_at w (byte_len w) d p j)

      abbrev fits_bucket : List ℕ → ℕ → Bool
      fits_bucket d j = fits d (pair_pos w S.size d p (index_in d j))

      abbrev bucket : Option ℕ
      bucket = found generic_kind (table_controls w b p) (cap_at w b p) (len_at w b p) hash (fits_bucket b)

      fits_same : (j : ℕ) → IsWalked w b p j → fits_bucket c j ≡ fits_bucket b j
      fits_same j there = grind (arith, common_steps, read_same j there, positions_same (index_in b j), index_below w kind S law b p view j there)

      pub lookup_same : index_found w c p hash (fits_in w k v c p fits) ≡ index_found w b p hash (fits_in w k v b p fits)
      lookup_same =
          let of : List ℕ → Option ℕ → Option ℕ = λ d o. option_map (number_at w d) (option_map (item_at w (byte_len w) d p) o) in
          let some = some_buckets i below in
          ap (of c) (found_same w b c p head (sym (controls_same some)) (stored_index_spec w) (stored_index_element w kind) table hash small (fits_bucket c) (fits_bucket b) fits_same)
          ∙ read_alike (number_at w c) (item_at w (byte_len w) c p) (number_at w b) (item_at w (byte_len w) b p) bucket (λ j is.
          let walked = found_walked generic_kind (cap_at w b p) (len_at w b p) hash (table_controls w b p) word_lawful
          (controls_accepted w (stored_index_spec w) (stored_index_element w kind) b p table some) small (fits_bucket b) j is in
          sym (read_same j (walked_full (cap_at w b p) (table_controls w b p) j walked.1)))

    -- the hashes of the keys are the same
    module _ (key_hash : List ℕ → ℕ → ℕ) (hashes : (j : ℕ) → j < len_at w b p → key_hash c (at j) ≡ key_hash b (at j)) where
      pub written_same : (homes : List ℕ) → IndexWrittenAt w S.size key_hash b p homes → IndexWrittenAt w S.size key_hash c p homes
      written_same = written_again w S.size key_hash key_hash b c p head controls_same read_same
          (λ j there. sym (hashes j there) ∙ ap (key_hash c) (sym (positions_same j)))

      -- the pair at index `i` represents a new value, and all others represent the same as before
      module _ {A B : Type 0} (key : List ℕ → ℕ → A → Type 0) (value : List ℕ → ℕ → B → Type 0) (factor : ℕ × ℕ) (pairs : List (A × B)) (st : IndexRepresents w k v key value key_hash factor b p pairs) where
        pub new_value_represents : (i : ℕ) (pair new : A × B) → slice_get pairs i ≡ Some pair → PairRepresents k v key value c (at i) new
            → ((j : ℕ) (x : A × B) → j < len_at w b p → slice_get pairs j ≡ Some x → j ≢ i → PairRepresents k v key value c (at j) x)
            → IndexRepresents w k v key value key_hash factor c p (slice_set pairs i new)
        new_value_represents i pair new there own others =
            let same_count = length-set pairs i new in
            let inside : i < length pairs = slice_get_within pairs i pair there in
            record {
              homes = st.homes;
              written = written_same st.homes st.written;
              len = sym (len_same w b c p head) ∙ st.len ∙ sym same_count;
              cap = sym (cap_same w b c p head) ∙ st.cap ∙ ap (λ m. capacity m factor) (sym same_count);
              at = set_each (λ j x. PairRepresents k v key value c (pair_pos w S.size c p j) x) pairs i new inside
                  (subst (λ z. PairRepresents k v key value c z new) (sym (positions_same i)) own)
                  (λ j x at_j ne.
                  let less = listed_below pairs (len_at w b p) j x st.len at_j in
                  subst (λ z. PairRepresents k v key value c z x) (sym (positions_same j)) (others j x less at_j ne));
            }
