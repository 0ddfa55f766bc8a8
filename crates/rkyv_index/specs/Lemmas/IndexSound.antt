-- A written index map is valid and represents its list, in any archive that has its bytes.
use Rattle.std.proofs.Common.{arith, get_or, refl, sym, ◌∙◌, ap, subst, inl, inr, zero, rules}
use Rattle.std.proofs.Common.{length-append}
use Rattle.std.proofs.lemmas.Grind.{common_steps}
use Rattle.std.proofs.lemmas.Int.{ints}
use Rattle.std.proofs.lemmas.List.{ext_get_or, get_or-map, get_or_default, length-map}
use Rattle.std.proofs.lemmas.List.FromFn.{get_or-range_with_len, length-range_with_len}
use Rattle.std.specs.Int.{Width, byte_len, cast_unsigned, to_le_bytes}
use Rattle.std.specs.List.{range_with_len}
use Rattle.std.specs.Prelude.{◌≡◌, ℕ, suc, ◌+◌, ◌*◌, ◌%◌, ◌<◌, ◌≤◌, pos}
use Rattle.std.specs.Prelude.{unsigned_abs, FitsSigned, Bool, true, List, [], ◌∷◌, ◌++◌, length}
use Rattle.std.specs.Prelude.{Some, map, slice_get, slice_index}
use Rattle.rkyv_base.specs.{ElementSpec, Encoding, Format, IsArchiveWord, IsElement, IsFormat}
use Rattle.rkyv_base.specs.{IsIndexEncoding, IsScalar, OccursAt, PairRepresents}
use Rattle.rkyv_base.specs.{ScalarRepresents, ValidAt, entry_spec, number_at, padding, pair_format}
use Rattle.rkyv_base.specs.{scalar_format}
use Rattle.rkyv_base.specs.Lemmas.Bytes.{occurs_back, occurs_front}
use Rattle.rkyv_base.specs.Lemmas.Entry.{entry_element, round_up-multiple}
use Rattle.rkyv_base.specs.Lemmas.Pairs.{pair_is_format}
use Rattle.rkyv_base.specs.Lemmas.Scalar.{scalar_is_format}
use Rattle.rkyv_base.specs.Lemmas.Words.{distances_read_back}
use Rattle.rkyv_keys.specs.Lemmas.QueryLaws.{hashes_as_written}
use Rattle.rkyv_keys.specs.{Comparison, FitsItsEqual, HashesAlike, IsQuery, hash_at, hash_of}
use Rattle.rkyv_scan.specs.{Hasher, HasherCall, hash_of_calls}
use Rattle.rkyv_table.specs.{AreValidAt, IsValidTable, IsWalked, IsWrittenOf, TableRepresents}
use Rattle.rkyv_table.specs.{WrittenAt, cap_at, capacity, hashes_of, home_positions, item_at}
use Rattle.rkyv_table.specs.{item_positions, items_of, len_at, resolved_capacity, table_controls}
use Rattle.rkyv_table.specs.{table_spec, walk}
use Rattle.rkyv_table.specs.Lemmas.HeaderReads.{header_length}
use Rattle.rkyv_table.specs.Lemmas.ValidItemLaws.{all_lower}
use Rattle.rkyv_table.specs.Lemmas.TableLaws.{table_element}
use Rattle.rkyv_table.specs.Lemmas.TableSound.{table_is_format}
use Rattle.rkyv_table.proofs.WalkedHomes.{walked_homes}
use Rattle.rkyv_table.proofs.Walks.{full_walked, walked_full}
use Rattle.rkyv_table.proofs.WrittenTables.{home_count, home_pos, table_written}
use Rattle.rkyv_index.specs.{BeforeZeros, CodesReadBack, IndexOverflows, IndexParts}
use Rattle.rkyv_index.specs.{IndexRepresents, IndexResolver, IndicesBelow, IsIndexHeader}
use Rattle.rkyv_index.specs.{IsValidIndex, RowImages, RowRepresents, decode_entries, distance_pos}
use Rattle.rkyv_index.specs.{entries_pos, index_format, index_spec, indices_from, indices_of}
use Rattle.rkyv_index.specs.{pair_pos, row_format}
use Rattle.rkyv_index.specs.Lemmas.IndexSpecs.{index_table_is_valid}
use Rattle.rkyv_index.specs.Lemmas.RowSound.{images_length, row_sound}

module _ {X P : Type 0} (own : X → ℕ) (v : ℕ → P) where
  pub indices_count : (i : ℕ) (xs : List X) → length (indices_from own v i xs) ≡ length xs
  indices_count i [] = refl
  indices_count i (x ∷ xs) = ap suc (indices_count (i + 1) xs)

  -- the item with number `j` is the index `i + j`
  index_there : (i : ℕ) (xs : List X) (j : ℕ) → j < length xs → slice_get
      (items_of (indices_from own v i xs)) j ≡ Some (v (i + j))
  index_there i [] j h = absurd (omega (arith, h))
  index_there i (x ∷ xs) zero h = let k : i ≡ i + 0 = omega arith in ap (λ n. Some (v n)) k
  index_there i (x ∷ xs) (suc j) h =
      grind (arith, common_steps, index_there (i + 1) xs j (omega (arith, h)))

  -- the hashes of the items are the hashes of the values at the indices
  hashes_there : (at hash : ℕ → ℕ) (i : ℕ) (xs : List X) → ((j : ℕ) (x : X) → slice_get xs j
      ≡ Some x → own x ≡ hash (at (i + j)))
      → hashes_of (indices_from own v i xs) ≡ map (λ k. hash (at k)) (range_with_len i (length xs))
  hashes_there at hash i [] h = refl
  hashes_there at hash i (x ∷ xs) h =
      let k : i + 0 ≡ i = omega arith in
      let rest = hashes_there at hash (i + 1) xs (λ j y e. let n : i + suc j ≡ (i + 1) + j =
      omega arith in h (suc j) y e ∙ ap (λ m. hash (at m)) n) in
      ap (λ (n : ℕ). n ∷ hashes_of (indices_from own v (i + 1) xs)) (h 0 x refl
      ∙ ap (λ m. hash (at m)) k) ∙ ap (λ (l : List ℕ). hash (at i) ∷ l) rest

module _ {P X R : Type 0} (w : Width) (kind : IsArchiveWord w) (ps : ElementSpec) (e : Encoding P)
    (pe : IsElement ps) (pk : IsScalar ps e) (index : IsIndexEncoding w e) (back : CodesReadBack e)
    (s : ElementSpec) (laws : IsElement s) (represents : List ℕ → ℕ → X → Type 0) (f : Format X R)
    (fl : IsFormat s represents f) (own : X → ℕ) (hash : List ℕ → ℕ → ℕ)
    (same_hash : (x : X) (b : List ℕ) (q : ℕ) → ValidAt s b q → represents b q x → own x ≡ hash b q)
    (factor : ℕ × ℕ) where
  module _ (xs : List X) where
    abbrev Indices : List (ℕ × P)
    Indices = indices_from own e.value 0 xs

    count : length Indices ≡ length xs
    count = indices_count own e.value 0 xs

    module _ (c : List ℕ) (p : ℕ)
        (table_represents : TableRepresents w ps (ScalarRepresents e) factor c p Indices) where
      tw : IsWrittenOf w (byte_len e.word) (ScalarRepresents e) c p Indices
      tw = subst (λ n. IsWrittenOf w n (ScalarRepresents e) c p Indices) pk.size
          (table_written w ps (ScalarRepresents e) factor c p Indices table_represents)

      hashes_count : length (hashes_of Indices) ≡ length xs
      hashes_count = length-map Indices (λ (y : ℕ × P). y.0) ∙ count

      homes_count : length tw.homes ≡ length xs
      homes_count = home_count w c p (hashes_of Indices) tw.homes tw.written ∙ hashes_count

      -- the home bucket of the value with number `j` has the index `j`
      numbers_at_homes : (j : ℕ) → j < length xs → number_at w c
          (slice_index (home_positions w (byte_len w) c p tw.homes) j) ≡ j
      numbers_at_homes j h =
          let z : 0 + j ≡ j = omega arith in
          let q = slice_index (home_positions w (byte_len e.word) c p tw.homes) j in
          let there : e.value (number_at e.word c q) ≡ e.value j = tw.at j (e.value j)
          (index_there own e.value 0 xs j h ∙ ap (λ n. Some (e.value n)) z) in
          let decoded : number_at e.word c q ≡ j = grind (arith, common_steps) in
          subst (λ v. number_at v c
          (slice_index (home_positions w (byte_len v) c p tw.homes) j) ≡ j) index.word decoded

      -- each full bucket has the index of a value
      walked_below : (i : ℕ) → IsWalked w c p i
          → number_at w c (item_at w (byte_len w) c p i) < length xs
      walked_below i walked = elim tw.written.placed [
        | inl none ↦ grind (arith, common_steps, hashes_count, table_represents, count)
        | inr some ↦
            let visits = walked_homes (cap_at w c p) (hashes_of Indices) tw.homes _ some.0
            tw.written.fit some.1 in
            let home = (visits.members i).0 (full_walked (cap_at w c p) _ i walked) in
            let j : ℕ = home.0 in
            let below : j < length xs = omega (arith, home.1, homes_count) in
            let at : slice_index tw.homes j ≡ i = get_or_default tw.homes j 0 i home.1 ∙ home.2 in
            let q : slice_index (home_positions w (byte_len w) c p tw.homes) j ≡ item_at w
            (byte_len w) c p i = home_pos w (byte_len w) c p tw.homes j home.1
            ∙ ap (item_at w (byte_len w) c p) at in
            let decoded : number_at w c (item_at w (byte_len w) c p i) ≡ j =
            ap (number_at w c) (sym q)
            ∙ numbers_at_homes j below in
            omega (arith, decoded, below)
      ]

      indices_below : IndicesBelow w c (length xs) (item_positions w (byte_len w) c p)
      indices_below i d below =
          let ws = walk (table_controls w c p) (cap_at w c p) in
          let n : i < length ws =
          omega (arith, below, length-map ws (item_at w (byte_len w) c p)) in
          let bucket : ℕ = get_or ws i d in
          let walked : IsWalked w c p bucket =
          walked_full (cap_at w c p) (table_controls w c p) bucket
          (i, n, get_or_default ws i bucket d n) in
          let e = get_or-map (item_at w (byte_len w) c p) ws i d d n in
          let h = walked_below bucket walked in
          subst (λ q. number_at w c q < length xs) (sym e) h

      indices_are : map (number_at w c) (home_positions w (byte_len w) c p tw.homes) ≡ indices_of
          (length xs)
      indices_are =
          let hs = home_positions w (byte_len w) c p tw.homes in
          let n : length hs ≡ length xs = length-map tw.homes (item_at w (byte_len w) c p)
          ∙ homes_count in
          let m = length-map hs (number_at w c) in
          ext_get_or 0 (map (number_at w c) hs) (indices_of (length xs))
          (m ∙ n ∙ sym (length-range_with_len 0 (length xs)))
          (λ i below.
          let k : i < length xs = omega (arith, below, m, n) in
          get_or-map (number_at w c) hs i 0 0 (omega (arith, k, n)) ∙ numbers_at_homes i k
          ∙ sym (get_or-range_with_len 0 (length xs) i 0 k ∙ omega arith))

    module _ (r : IndexResolver) (c : List ℕ) (p0 p : ℕ) (part out : List ℕ)
        (t : IndexParts w ps e s f own factor xs p0 part r)
        (i : IsIndexHeader w r.table.len (resolved_capacity r.table) r p out)
        (sp : OccursAt c p0 part) (so : OccursAt c p out) (o : p0 + length part ≤ p)
        (al : p % byte_len w ≡ 0) where
      abbrev row : List ℕ
      row = t.row

      abbrev zb : BeforeZeros w ps e s f own factor xs p0 t.before.head r.table t.resolvers
      zb = t.before.serialized

      abbrev begin : ℕ
      begin = r.entries

      front_sits : OccursAt c p0 t.front
      front_sits = occurs_front c p0 t.front row (subst (OccursAt c p0) t.is sp)

      row_sits : OccursAt c begin row
      row_sits = grind (arith, common_steps, occurs_back)

      head_sits : OccursAt c p0 (zb.table ++ zb.part_bytes)
      head_sits = grind (arith, common_steps, occurs_front, front_sits)

      front_length : length t.front ≡ length t.before.head + padding s.align
          (p0 + length t.before.head)
      front_length = grind (arith, common_steps)

      head_length : length t.before.head ≡ length zb.table + length zb.part_bytes
      head_length = ap length zb.is ∙ length-append zb.table zb.part_bytes

      part_length : length part ≡ length t.front + length row
      part_length = ap length t.is ∙ length-append t.front row

      row_length : length row ≡ length xs * s.size
      row_length = images_length s laws represents f fl xs t.resolvers begin row t.images

      begin_aligned : begin % s.align ≡ 0
      begin_aligned = grind (arith, front_length, round_up-multiple)

      table_length : length i.table ≡ 3 * byte_len w
      table_length = ap length i.header.is ∙ header_length w kind i.header.distance r.table.len
          (resolved_capacity r.table)

      header_sits : OccursAt c p (i.table ++ to_le_bytes w (cast_unsigned w i.distance))
      header_sits = subst (OccursAt c p) i.is so

      decoded : decode_entries w c p ≡ pos begin
      decoded =
          let d = distances_read_back w kind i.distance c (distance_pos w p) i.fits
          (subst (λ k. OccursAt c (p + k) (to_le_bytes w (cast_unsigned w i.distance))) table_length
          (occurs_back c p i.table (to_le_bytes w (cast_unsigned w i.distance)) header_sits)) in
          search (rules, ints)

      begin_is : entries_pos w c p ≡ begin
      begin_is = ap unsigned_abs decoded

      table : (l : ℕ) × IsValidTable w ps c p p0 (p0 + length zb.table) l
          × TableRepresents w ps (ScalarRepresents e) factor c p Indices
      table =
          (table_is_format w kind ps pe (ScalarRepresents e) (scalar_format e)
          (scalar_is_format ps e pk) factor).sound Indices r.table c p0 p zb.table i.table
          zb.serialized i.header (occurs_front c p0 zb.table zb.part_bytes head_sits)
          (occurs_front c p i.table (to_le_bytes w (cast_unsigned w i.distance)) header_sits)
          (omega (arith, o, part_length, front_length, head_length)) al

      first_at_begin : begin ≡ begin + 0 * s.size
      first_at_begin = omega arith

      rows : (l : ℕ) × AreValidAt s (λ k. begin + k * s.size) c begin (range_with_len 0 (length xs))
          (p0 + length zb.table) l × (l ≤ (p0 + length zb.table) + length zb.part_bytes)
          × ((j : ℕ) (x : X) → slice_get xs j ≡ Some x → ValidAt s c (begin + (0 + j) * s.size)
          × represents c (begin + (0 + j) * s.size) x)
      rows =
          row_sound s laws represents f fl c begin xs 0 (p0 + length zb.table) zb.part_bytes row
          t.resolvers zb.parts
          (subst (λ k. RowImages f xs t.resolvers k row) first_at_begin t.images)
          (occurs_back c p0 zb.table zb.part_bytes head_sits)
          (subst (λ k. OccursAt c k row) first_at_begin row_sits)
          (omega (arith, t.at, front_length, head_length))
          (subst (λ k. k % s.align ≡ 0) first_at_begin begin_aligned)

      table_represents : TableRepresents w ps (ScalarRepresents e) factor c p Indices
      table_represents = table.2

      len_decoded : len_at w c p ≡ length xs
      len_decoded = table_represents.len ∙ count

      abbrev homes : List ℕ
      homes = (tw c p table_represents).homes

      pair_pos_is : (j : ℕ) → begin + (0 + j) * s.size ≡ pair_pos w s.size c p j
      pair_pos_is j = grind (arith, common_steps, begin_is)

      hashes_are : hashes_of Indices ≡ map (λ k. hash c (pair_pos w s.size c p k))
          (indices_of (len_at w c p))
      hashes_are =
          hashes_there own e.value (pair_pos w s.size c p) (hash c) 0 xs (λ j x there.
          let z : j ≡ 0 + j = omega arith in
          let st = rows.3 j x there in
          same_hash x c (begin + (0 + j) * s.size) st.0 st.1 ∙ ap (hash c) (pair_pos_is j)
          ∙ ap (λ k. hash c (pair_pos w s.size c p k)) z)
          ∙ ap (λ n. map (λ k. hash c (pair_pos w s.size c p k)) (indices_of n)) (sym len_decoded)

      row_represents : RowRepresents w s.size represents hash factor c p xs
      row_represents = record {
        homes = homes;
        written = record {
          table = subst (λ (hs : List ℕ). WrittenAt w c p hs homes) hashes_are
              (tw c p table_represents).written;
          indices = indices_are c p table_represents ∙ ap indices_of (sym len_decoded);
        };
        len = len_decoded;
        cap = table_represents.cap ∙ ap (λ n. capacity n factor) count;
        at = λ j x there. subst (λ q. represents c q x) (pair_pos_is j) (rows.3 j x there).1;
      }

      table_law : IsElement (table_spec w ps)
      table_law = table_element w kind ps pe

      is_valid : (l : ℕ) × IsValidIndex w s c p p0 (p0 + length part) l
      is_valid =
          let b = table_law.rest_in_range c p p0 (p0 + length zb.table) table.0
          (omega arith) table.1 in
          let up = table_law.widen_hi c p p0 (p0 + length zb.table) (p0 + length part) table.0
          (omega (arith, part_length, front_length, head_length)) table.1 in
          let low = all_lower s laws (λ k. begin + k * s.size) c begin
          (range_with_len 0 (length xs))
          (p0 + length zb.table) table.0 rows.0 b.1
          (omega (arith, t.at, front_length, head_length)) rows.1 in
          let size : len_at w c p * s.size ≡ length xs * s.size =
          ap (λ n. n * s.size) len_decoded in (
            begin + len_at w c p * s.size,
            record {
              middle = table.0;
              table = index_table_is_valid w ps e pk index c p p0 (p0 + length part) table.0 up;
              below = subst (λ n. IndicesBelow w c n (item_positions w (byte_len w) c p))
                  (sym len_decoded) (indices_below c p table_represents);
              entries = record {
                begin = begin;
                part = record {
                  begins = sym decoded;
                  above = grind (arith, common_steps, front_length, head_length);
                  below = omega (arith, t.at, part_length, row_length, size);
                  aligned = begin_aligned;
                };
                last = low.0;
                valid = subst (λ n. AreValidAt s (λ k. begin + k * s.size) c begin
                    (range_with_len 0 n) table.0 low.0) (sym len_decoded) low.1;
                ends = refl;
              };
            },
          )

  header_whole : (r : IndexResolver) (p : ℕ) (out : List ℕ) → IsIndexHeader w r.table.len
      (resolved_capacity r.table) r p out → length out ≡ 4 * byte_len w
  header_whole r p out i = grind (arith, common_steps)

  header_exclusive : (r : IndexResolver) (p : ℕ) (out : List ℕ) → IsIndexHeader w r.table.len
      (resolved_capacity r.table) r p out
      → IndexOverflows w r.table.len r p → ⊥
  header_exclusive r p out i (inl overflow) = grind (arith, common_steps)
  header_exclusive r p out i (inr overflow) =
      overflow (subst (FitsSigned w) i.distance_value i.fits)

  -- Written bytes of values and an aligned header behind them are a valid index map in any archive
  -- that has them. It represents the values.
  pub row_is_format : IsFormat (index_spec w s) (RowRepresents w s.size represents hash factor)
      (row_format w ps e s f own factor)
  row_is_format = record {
    size_exact = λ xs r p out i. header_whole r p out i;
    exclusive = λ xs r p out i overflow. header_exclusive r p out i overflow;
    sound = λ xs r c p0 p part out t i sp so o al.
        let h = is_valid xs r c p0 p part out t i sp so o al in (
          h.0,
          h.1,
          row_represents xs r c p0 p part out t i sp so o al,
        );
  }

-- Written bytes of pairs and an aligned header behind them are a valid index map in any archive
-- that has them. It represents the pairs.
pub index_is_format : {P A B R Q : Type 0} (w : Width) (kind : IsArchiveWord w) (ps : ElementSpec)
    (e : Encoding P) (pe : IsElement ps) (pk : IsScalar ps e) (index : IsIndexEncoding w e)
    (back : CodesReadBack e) (k v : ElementSpec)
    (kl : IsElement k) (vl : IsElement v)
    (key : List ℕ → ℕ → A → Type 0) (value : List ℕ → ℕ → B → Type 0) (kf : Format A R)
    (vf : Format B Q) → IsFormat k key kf → IsFormat v value vf
    → (own : A → ℕ) (hash : List ℕ → ℕ → ℕ) → HashesAlike k key hash own → (factor : ℕ × ℕ)
    → IsFormat (index_spec w (entry_spec k v)) (IndexRepresents w k v key value hash factor)
    (index_format w ps e k v kf vf own factor)
index_is_format w kind ps e pe pk index back k v kl vl key value kf vf kw vw own hash same_hash
    factor =
    row_is_format w kind ps e pe pk index back (entry_spec k v) (entry_element k v kl vl)
    (PairRepresents k v key value) (pair_format k v kf vf)
    (pair_is_format k v kl vl key value kf vf kw vw) (λ pair. own pair.0) hash
    (λ pair b q h st. same_hash pair.0 b q (h.1.1, h.1.2) st.0) factor

module _ {State : Type 0} (hasher : Hasher State)
    (w : Width) (kind : IsArchiveWord w) {P : Type 0} (ps : ElementSpec) (e : Encoding P)
    (pe : IsElement ps) (pk : IsScalar ps e) (index : IsIndexEncoding w e) (back : CodesReadBack e)
    {k v : ElementSpec} (kl : IsElement k) (vl : IsElement v) {A B : Type 0} {key : List ℕ → ℕ → A
    → Type 0} {value : List ℕ → ℕ → B → Type 0} {same : Comparison} {key_calls : List ℕ → ℕ
    → List HasherCall} (factor : ℕ × ℕ) where
  -- the same for the hashes of native keys
  pub index_sound : {calls : A → List HasherCall} {fits : A → List ℕ → ℕ
      → Bool} {equal : A → A → Bool} {R Q : Type 0} {kf : Format A R} {vf : Format B Q}
      → IsQuery k same key_calls calls fits → FitsItsEqual k key equal fits
      → ((a : A) → equal a a ≡ true)
      → IsFormat k key kf → IsFormat v value vf
      → IsFormat (index_spec w (entry_spec k v)) (IndexRepresents w k v key value
      (hash_at hasher key_calls) factor) (index_format w ps e k v kf vf
      (hash_of hasher calls) factor)
  index_sound {calls} {fits} {equal} {R} {Q} {kf} {vf} query native itself kw vw =
      index_is_format w kind ps e pe pk index back k v kl vl key value kf vf kw vw
      (hash_of hasher calls) (hash_at hasher key_calls)
      (λ a b q valid there. ap (hash_of_calls hasher) (hashes_as_written k same
      key_calls calls fits key equal itself query native a b q valid there))
      factor
