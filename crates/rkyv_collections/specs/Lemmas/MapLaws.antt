-- Written maps are valid in each archive with their bytes, and so are copies of their bytes.
use Rattle.std.proofs.Common.{rules}
use Rattle.std.proofs.Common.{◌≡◌, ℕ, ◌+◌, ◌-◌, ◌*◌, ◌<◌, ◌≤◌, refl, sym, ap, subst, ◌∙◌, arith}
use Rattle.std.proofs.Common.{inl, inr, List, [], ◌∷◌, map, length, slice_get, slice_index, Some}
use Rattle.std.proofs.lemmas.Grind.{common_steps}
use Rattle.std.specs.Int.{Width, byte_len}
use Rattle.std.proofs.lemmas.List.{ext_get_or, get_or-map, length-map}
use Rattle.std.proofs.lemmas.Option.{slice_get_cases, slice_get_within}
use Rattle.rkyv_base.specs.{AgreeOn, ElementSpec, Format, IsArchiveWord, IsElement, IsFormat}
use Rattle.rkyv_base.specs.{PairRepresents, RepresentsLocally, ValidAt, entry_spec, pair_format}
use Rattle.rkyv_base.specs.{value_offset}
use Rattle.rkyv_base.specs.Lemmas.Bytes.{agree_on_part}
use Rattle.rkyv_base.specs.Lemmas.Entry.{entry_element, same_key}
use Rattle.rkyv_base.specs.Lemmas.Pairs.{pair_is_format, pair_local}
use Rattle.rkyv_base.specs.Lemmas.ElementSpec.{valid_at}
use Rattle.rkyv_table.specs.{IsValidTable, IsValidWithin, IsWrittenOf}
use Rattle.rkyv_table.specs.{TableRepresents, ValidPart, WrittenAt, capacity, hashes_of}
use Rattle.rkyv_table.specs.{home_positions, item_at, items_of}
use Rattle.rkyv_table.specs.Lemmas.TableSound.{table_is_format}
use Rattle.rkyv_table.specs.Lemmas.ItemPositions.{item_is_valid, valid_part}
use Rattle.rkyv_table.specs.Lemmas.SameHeader.{cap_same, len_same, pos_same}
use Rattle.rkyv_table.proofs.WrittenTables.{home_count, home_pos, home_walked, table_written}
use Rattle.rkyv_collections.specs.{MapRepresents, keyed, map_format, map_spec}
use Rattle.rkyv_table.specs.Lemmas.SameControls.{same_controls}
use Rattle.rkyv_keys.specs.{HashLocal, HashesAlike}

module _ {A B : Type 0} (own : A → ℕ) where
  keyed_hashes : (pairs : List (A × B))
      → hashes_of (keyed own pairs) ≡ map (λ pair. own pair.0) pairs
  keyed_hashes [] = refl
  keyed_hashes (x ∷ xs) = ap (λ (t : List ℕ). own x.0 ∷ t) (keyed_hashes xs)

  keyed_items : (pairs : List (A × B)) → items_of (keyed own pairs) ≡ pairs
  keyed_items [] = refl
  keyed_items (x ∷ xs) = ap (λ (t : List (A × B)). x ∷ t) (keyed_items xs)

module _ (k v : ElementSpec) (kl : IsElement k) (vl : IsElement v) (w : Width) where
  abbrev S : ElementSpec
  S = entry_spec k v

  abbrev law : IsElement S
  law = entry_element k v kl vl

  -- the position of the item with the number `i`, in insertion order
  abbrev pos_of_home : List ℕ → ℕ → List ℕ → ℕ → ℕ
  pos_of_home b p homes i = slice_index (home_positions w S.size b p homes) i

  -- the key of a valid entry is valid
  pub key_valid : (b : List ℕ) (q lo hi l : ℕ) → IsValidWithin S b q lo hi l → hi ≤ q
      → ValidAt k b q
  key_valid b q lo hi l h o = grind (arith, common_steps, valid_at)

  module _ (b : List ℕ) (p lo hi l : ℕ) (h : IsValidTable w S b p lo hi l) (hashes homes : List ℕ)
      (written : WrittenAt w b p hashes homes) where
    -- the entry of each item is valid
    pub entry_there : (i : ℕ) → i < length homes
        → (t : ValidPart w S b p lo hi l)
        × IsValidWithin S b (pos_of_home b p homes i) lo t.begin t.begin
        × (t.begin ≤ pos_of_home b p homes i) × (pos_of_home b p homes i + S.size ≤ l)
    entry_there i below =
        let walked = home_walked w b p hashes homes written i below in
        let t = valid_part w S law b p lo hi l h (omega (arith, walked.0)) in
        let r = item_is_valid w S law b p lo hi l h (slice_index homes i) walked t in
        search (rules, home_pos)

  module _ {A B : Type 0} (key : List ℕ → ℕ → A → Type 0) (value : List ℕ → ℕ → B
      → Type 0) (hash : List ℕ → ℕ → ℕ) (factor : ℕ × ℕ) where
    module _ (local : HashLocal k hash) (kn : RepresentsLocally k key)
        (vn : RepresentsLocally v value)
        (pairs : List (A × B)) (b c : List ℕ) (p lo hi l : ℕ) (o : lo ≤ hi)
        (h : IsValidTable w S b p lo hi l) (fixed : AgreeOn b c p (p + 3 * byte_len w))
        (part : AgreeOn b c lo l) (st : MapRepresents w k v key value hash factor b p pairs) where
      same_positions : home_positions w S.size b p st.homes ≡ home_positions w S.size c p st.homes
      same_positions = ap (λ z. map (λ i. z - (i + 1) * S.size) st.homes) (pos_same w b c p fixed)

      abbrev hashes : List ℕ
      hashes = map (hash b) (home_positions w S.size b p st.homes)

      there : (i : ℕ) → i < length st.homes
          → (t : ValidPart w S b p lo hi l)
          × IsValidWithin S b (pos_of_home b p st.homes i) lo t.begin t.begin
          × (t.begin ≤ pos_of_home b p st.homes i) × (pos_of_home b p st.homes i + S.size ≤ l)
      there i below = entry_there b p lo hi l h hashes st.homes st.written i below

      same_entry : (i : ℕ) (below : i < length st.homes)
          → AgreeOn b c (pos_of_home b p st.homes i) (pos_of_home b p st.homes i + S.size)
      same_entry i below =
          let r = there i below in
          let above = r.0.part.above in
          agree_on_part b c lo l (pos_of_home b p st.homes i) (pos_of_home b p st.homes i + S.size)
          (omega (arith, above, r.2)) (omega (arith, r.3)) (omega arith) part

      same_hash : (i : ℕ) → i < length st.homes
          → hash b (pos_of_home b p st.homes i) ≡ hash c (pos_of_home b p st.homes i)
      same_hash i below =
          let r = there i below in
          let q = pos_of_home b p st.homes i in
          let e = r.1.is_valid in
          let x = kl.rest_in_range b q r.1.lower r.0.begin e.1 r.1.below e.2 in
          let y = vl.rest_in_range b (q + value_offset k v) e.1 r.0.begin r.1.rest x.1 e.3 in
          let ends = r.0.ends in
          let low = r.1.above in
          local b c q r.1.lower r.0.begin e.1 r.1.below e.2
          (same_key k v kl vl b c q e.0 (same_entry i below))
          (agree_on_part b c lo l r.1.lower e.1 low (omega (arith, x.1, ends)) x.0 part)

      abbrev again : List ℕ
      again = map (hash c) (home_positions w S.size c p st.homes)

      same_hashes : hashes ≡ again
      same_hashes =
          let hb = home_positions w S.size b p st.homes in
          let hc = home_positions w S.size c p st.homes in
          let nb : length hb ≡ length st.homes = length-map st.homes (item_at w S.size b p) in
          let nc : length hc ≡ length st.homes = length-map st.homes (item_at w S.size c p) in
          ext_get_or 0 hashes again (length-map hb (hash b) ∙ nb ∙ sym nc
          ∙ sym (length-map hc (hash c)))
          (λ i below.
          let n : i < length st.homes = omega (arith, below, length-map hb (hash b), nb) in
          grind (
            arith,
            common_steps,
            get_or-map (hash b) hb i 0 0 (omega (arith, n, nb)),
            get_or-map (hash c) hc i 0 0 (omega (arith, n, nc)),
            same_hash i n,
            same_positions,
          ))

      written_again : WrittenAt w c p hashes st.homes
      written_again = record {
        count = sym (len_same w b c p fixed) ∙ st.written.count;
        fit = st.written.fit;
        placed = elim st.written.placed [
          | inl e ↦ inl e
          | inr e ↦
              grind (
                arith,
                common_steps,
                cap_same w b c p fixed,
                same_controls w S law b c p lo hi l o h fixed part (omega (arith, e.0)),
              )
        ];
      }

      pub represents_again : MapRepresents w k v key value hash factor c p pairs
      represents_again = record {
        homes = st.homes;
        written = subst (λ (xs : List ℕ). WrittenAt w c p xs st.homes) same_hashes written_again;
        len = sym (len_same w b c p fixed) ∙ st.len;
        cap = sym (cap_same w b c p fixed) ∙ st.cap;
        at = λ i pair e.
            let inside = slice_get_within pairs i pair e in
            let n0 = st.written.count in
            let n1 = length-map (home_positions w S.size b p st.homes) (hash b) in
            let n2 = length-map st.homes (item_at w S.size b p) in
            let n3 = st.len in
            let below : i < length st.homes = omega (arith, inside, n0, n1, n2, n3) in
            let r = there i below in
            let q = pos_of_home b p st.homes i in
            let ends = r.0.ends in
            let ends' = r.1.ends in
            let x = law.rest_in_range b q r.1.lower r.0.begin r.1.rest r.1.below r.1.is_valid in
            let there' =
            pair_local k v kl vl key value kn vn pair b c q r.1.lower r.0.begin r.1.rest r.1.below
            r.1.is_valid (same_entry i below)
            (agree_on_part b c lo l r.1.lower r.1.rest r.1.above (omega (arith, ends, ends'))
            x.0 part) (st.at i pair e) in
            subst (λ (xs : List ℕ). PairRepresents k v key value c (slice_index xs i) pair)
            same_positions there';
      }

    module _ (own : A → ℕ) (hashes_alike : HashesAlike k key hash own) where
      module _ (pairs : List (A × B)) (c : List ℕ) (p lo hi l : ℕ)
          (h : IsValidTable w S c p lo hi l)
          (t : TableRepresents w S (PairRepresents k v key value) factor c p
          (keyed own pairs)) where
        whole : IsWrittenOf w S.size (PairRepresents k v key value) c p (keyed own pairs)
        whole = table_written w S (PairRepresents k v key value) factor c p (keyed own pairs) t

        abbrev homes : List ℕ
        homes = whole.homes

        abbrev under : List ℕ
        under = hashes_of (keyed own pairs)

        count : length (keyed own pairs) ≡ length pairs
        count = length-map pairs (λ (pair : A × B). (own pair.0, pair))

        under_count : length under ≡ length pairs
        under_count = length-map (keyed own pairs) (λ (x : ℕ × (A × B)). x.0) ∙ count

        homes_count : length homes ≡ length pairs
        homes_count = home_count w c p under homes whole.written ∙ under_count

        pair_at : (i : ℕ) (pair : A × B) → slice_get pairs i ≡ Some pair
            → PairRepresents k v key value c (pos_of_home c p homes i) pair
        pair_at i pair e = whole.at i pair
            (ap (λ (xs : List (A × B)). slice_get xs i) (keyed_items own pairs) ∙ e)

        hash_there : (i : ℕ) → i < length pairs
            → slice_index under i ≡ hash c (pos_of_home c p homes i)
        hash_there i inside = elim (slice_get_cases pairs i).1 [
          | inl x ↦
              let below : i < length homes = omega (arith, inside, homes_count) in
              let r = entry_there c p lo hi l h under homes whole.written i below in
              let q = pos_of_home c p homes i in
              let valid = key_valid c q lo r.0.begin r.0.begin r.1 r.2 in
              ap (λ (xs : List ℕ). slice_index xs i) (keyed_hashes own pairs)
              ∙ get_or-map (λ (pair : A × B). own pair.0) pairs i x.0 0 inside
              ∙ ap (λ (pair : A × B). own pair.0) x.3
              ∙ hashes_alike x.0.0 c q valid (pair_at i x.0 x.2).0
          | inr x ↦ absurd (omega (arith, x.0, inside))
        ]

        hashes_there : under ≡ map (hash c) (home_positions w S.size c p homes)
        hashes_there =
            let positions = home_positions w S.size c p homes in
            let n : length positions ≡ length homes = length-map homes (item_at w S.size c p) in
            ext_get_or 0 under (map (hash c) positions) (under_count ∙ sym homes_count ∙ sym n
            ∙ sym (length-map positions (hash c)))
            (λ i below.
            grind (arith, common_steps, under_count, hash_there, get_or-map, homes_count))

        pub pairs_represent : MapRepresents w k v key value hash factor c p pairs
        pairs_represent = record {
          homes = homes;
          written = subst (λ (xs : List ℕ). WrittenAt w c p xs homes) hashes_there whole.written;
          len = t.len ∙ count;
          cap = t.cap ∙ ap (λ n. capacity n factor) count;
          at = pair_at;
        }

      module _ {R Q : Type 0} (kind : IsArchiveWord w) (kf : Format A R) (vf : Format B Q)
          (kw : IsFormat k key kf) (vw : IsFormat v value vf) where
        -- In any archive with the written bytes of a map and its aligned header after them,
        -- the map is valid. Its parts are in their range, and it represents the pairs.
        pub map_is_format : IsFormat (map_spec w k v) (MapRepresents w k v key value hash factor)
            (map_format w k v kf vf own factor)
        map_is_format =
            let table =
            table_is_format w kind S law (PairRepresents k v key value) (pair_format k v kf vf)
            (pair_is_format k v kl vl key value kf vf kw vw) factor in
            record {
              size_exact = λ pairs r p out i. table.size_exact (keyed own pairs) r p out i;
              exclusive = λ pairs r p out i f. table.exclusive (keyed own pairs) r p out i f;
              sound = λ pairs r c p0 p part out h i s t o al.
                  let d = table.sound (keyed own pairs) r c p0 p part out h i s t o al in
                  (d.0, d.1, pairs_represent pairs c p p0 (p0 + length part) d.0 d.1 d.2);
            }
