-- Written bytes of a std map represent that map, and so do copies of these bytes.
use Rattle.std.proofs.lemmas.Grind.{common_steps}
use Rattle.std.proofs.Common.{◌≡◌, ℕ, zero, suc, ◌+◌, ◌-◌, ◌*◌, ◌<◌, ◌≤◌, refl, sym, ap, subst}
use Rattle.std.proofs.Common.{◌∙◌, arith, inl, inr, ◌⊎◌, Bool, true, false, cond, eqb, List, []}
use Rattle.std.proofs.Common.{◌∷◌, map, length, slice_get, slice_index, Option, Some, None}
use Rattle.std.specs.Cmp.{IsEquivalence}
use Rattle.std.specs.Int.{Width, byte_len}
use Rattle.std.specs.List.{All, AllZip, Contains, IsDistinct, find}
use Rattle.std.specs.Map.{keys_of, lookup, update_all}
use Rattle.std.proofs.lemmas.Bool.{both_ways, cases_Bool, cases_eq, cases_lt, eq-eqb}
use Rattle.std.proofs.lemmas.List.{get_or_default}
use Rattle.std.proofs.lemmas.List.Elements.{All-contains_itself, All-head, All-tail, All-weaker}
use Rattle.std.proofs.lemmas.Map.Entries.{lookup_from_place, place_from_lookup}
use Rattle.std.proofs.lemmas.Map.Keys.{apart_from_distinct}
use Rattle.std.proofs.lemmas.Option.{same_Some, slice_get_cases, slice_get_within}
use Rattle.rkyv_base.specs.{AgreeOn, ElementSpec, Format, IsArchiveWord, IsElement, IsFormat}
use Rattle.rkyv_base.specs.{PairRepresents, RepresentsLocally, entry_spec}
use Rattle.rkyv_base.specs.Lemmas.Bytes.{agree_on_part}
use Rattle.rkyv_base.specs.Lemmas.Entry.{entry_element}
use Rattle.rkyv_base.specs.Lemmas.Pairs.{pair_local}
use Rattle.rkyv_table.specs.{IsValidTable, IsWalked, cap_at, item_at, item_positions}
use Rattle.rkyv_table.specs.{table_controls, walk}
use Rattle.rkyv_table.specs.Lemmas.ItemPositions.{item_is_valid, valid_part}
use Rattle.rkyv_table.specs.Lemmas.SameHeader.{pos_same}
use Rattle.rkyv_table.proofs.RawWalks.{walked_all}
use Rattle.rkyv_table.proofs.SameTable.{same_walk}
use Rattle.rkyv_table.proofs.WrittenTables.{home_pos}
use Rattle.rkyv_collections.specs.{ArePairsAt, EntriesRepresent, MapRepresents, map_spec}
use Rattle.rkyv_collections.specs.{of_entries}
use Rattle.rkyv_collections.specs.Lemmas.DistinctEntries.{of_entries-format}
use Rattle.rkyv_collections.specs.Lemmas.PairHomes.{homes_count, homes_visited}
use Rattle.rkyv_collections.specs.Lemmas.StoredKeys.{find_in_distinct, key_contained, no_key}

module _ (k v : ElementSpec) (kl : IsElement k) (vl : IsElement v) (w : Width) where
  abbrev S : ElementSpec
  S = entry_spec k v

  abbrev law : IsElement S
  law = entry_element k v kl vl

  module _ (b c : List ℕ) (p lo hi l : ℕ) (o : lo ≤ hi) (h : IsValidTable w S b p lo hi l)
      (fixed : AgreeOn b c p (p + 3 * byte_len w)) (part : AgreeOn b c lo l) where
    -- a walk has the same positions in both
    pub same_positions : item_positions w S.size b p ≡ item_positions w S.size c p
    same_positions =
        ap (map (item_at w S.size b p)) (same_walk w S law b c p lo hi l o h fixed part)
        ∙ ap (λ z. map (λ i. z - (i + 1) * S.size) (walk (table_controls w c p) (cap_at w c p)))
        (pos_same w b c p fixed)

    module _ {A B : Type 0} {key : List ℕ → ℕ → A → Type 0} {value : List ℕ → ℕ → B
        → Type 0} (kn : RepresentsLocally k key) (vn : RepresentsLocally v value) where
      pair_again : (i : ℕ) → IsWalked w b p i → (pair : A × B)
          → PairRepresents k v key value b (item_at w S.size b p i) pair
          → PairRepresents k v key value c (item_at w S.size b p i) pair
      pair_again i walked pair st =
          let q = item_at w S.size b p i in
          let t = valid_part w S law b p lo hi l h (omega (arith, walked.0)) in
          let r = item_is_valid w S law b p lo hi l h i walked t in
          let above = t.part.above in
          let ends = t.ends in
          let ends' = r.0.ends in
          let x = law.rest_in_range b q r.0.lower t.begin r.0.rest r.0.below r.0.is_valid in
          pair_local k v kl vl key value kn vn pair b c q r.0.lower t.begin r.0.rest r.0.below
          r.0.is_valid
          (agree_on_part b c lo l q (q + S.size) (omega (arith, r.1, above)) r.2 (omega arith)
          part)
          (agree_on_part b c lo l r.0.lower r.0.rest r.0.above (omega (arith, ends, ends')) x.0
          part) st

      pairs_again : (is : List ℕ) → All (IsWalked w b p) is → (pairs : List (A × B))
          → ArePairsAt k v key value b (map (item_at w S.size b p) is) pairs
          → ArePairsAt k v key value c (map (item_at w S.size b p) is) pairs
      pairs_again [] walked [] r = r
      pairs_again [] walked (x ∷ xs) r = r
      pairs_again (i ∷ is) walked [] r = r
      pairs_again (i ∷ is) walked (x ∷ xs) r = (
        pair_again i (All-head (IsWalked w b p) i is walked) x r.0,
        pairs_again is (All-tail (IsWalked w b p) i is walked) xs r.1,
      )

      pub entries_again : (equal : A → A → Bool) (es : List (A × B))
          → EntriesRepresent k v key value w equal b p es
          → EntriesRepresent k v key value w equal c p es
      entries_again equal es st = record {
        pairs = st.pairs;
        read =
            subst (λ (positions : List ℕ). ArePairsAt k v key value c positions st.pairs)
            same_positions
            (pairs_again (walk (table_controls w b p) (cap_at w b p)) (walked_all w S law b p)
            st.pairs st.read);
        inserted = st.inserted;
        stored = st.stored;
      }

  -- the represented entries depend only on the bytes on which the validity of the map depends
  pub entries_local : {A B : Type 0} {key : List ℕ → ℕ → A → Type 0} {value : List ℕ → ℕ → B
      → Type 0} (equal : A → A → Bool) → RepresentsLocally k key → RepresentsLocally v value
      → RepresentsLocally {V = List (A
      × B)} (map_spec w k v) (EntriesRepresent k v key value w equal)
  entries_local equal kn vn es b c p lo hi l o h fixed part st =
      entries_again b c p lo hi l o h fixed part kn vn equal es st

-- Pairs of distinct keys, each with its own home bucket.
module _ {A B : Type 0} (equal : A → A → Bool) (laws : IsEquivalence equal) (pairs : List (A × B))
    (apart : IsDistinct equal (keys_of pairs))
    (homes : List ℕ) (once : IsDistinct eqb homes) (count : length homes ≡ length pairs) where
  -- bucket `i` is the home bucket of the pair
  abbrev Picks : ℕ → A × B → Type 0
  Picks i y = (n : ℕ) × (n < length homes) × (slice_index homes n ≡ i)
      × (slice_get pairs n ≡ Some y)

  homes_apart : (n m : ℕ) → n < m → m < length homes → slice_index homes n ≡ slice_index homes m → ⊥
  homes_apart n m h l e =
      both_ways (eqb (slice_index homes n) (slice_index homes m))
      (apart_from_distinct eqb homes n m 0 once h l)
      (eq-eqb (slice_index homes n) (slice_index homes m) e)

  one_home : (n m : ℕ) → n < length homes → m < length homes
      → slice_index homes n ≡ slice_index homes m → n ≡ m
  one_home n m h l e = elim (cases_lt n m) [
    | inl less ↦ absurd (homes_apart n m less l e)
    | inr more ↦ elim (cases_eq n m) [
      | inl same ↦ same
      | inr differ ↦ absurd (homes_apart m n (omega arith) h (sym e))
    ]
  ]

  same_lookup : (x q : A) → equal x q ≡ true → lookup (equal x) pairs ≡ lookup (equal q) pairs
  same_lookup x q h = ap (λ (test : A → Bool). lookup test pairs) (λ i z. laws.congr x q z h i)

  -- a pair in a bucket is found by its key
  picked_found : (i : ℕ) (y : A × B) → Picks i y → (q : A) → equal y.0 q ≡ true
      → Some y.1 ≡ lookup (equal q) pairs
  picked_found i y h q e = sym (lookup_from_place laws pairs h.0 y.0 y.1 apart h.3)
      ∙ same_lookup y.0 q e

  -- a found key is the key of the pair in some home bucket
  Hits : A → Type 0
  Hits q = (i : ℕ) × Contains homes i × ((y : A × B) → Picks i y → equal y.0 q ≡ true)

  found_picked : (q : A) (o : Option B) → lookup (equal q) pairs ≡ o → (o ≡ None) ⊎ Hits q
  unfolding Hits
  found_picked q None e = inl refl
  found_picked q (Some x) e =
      let at = place_from_lookup (equal q) pairs x e in
      let inside = slice_get_within pairs at.0 (at.1, x) at.2 in
      let below : at.0 < length homes = omega (arith, inside, count) in
      let i = slice_index homes at.0 in
      inr (
        i,
        (at.0, below, get_or_default homes at.0 i 0 below),
        λ y picked.
            let n = one_home picked.0 at.0 picked.1 below picked.2 in
            let is : y ≡ (at.1, x) = same_Some y (at.1, x) (sym picked.3 ∙ ap (slice_get pairs) n
            ∙ at.2) in
            ap (λ (z : A × B). equal z.0 q) is ∙ laws.symm at.1 q ∙ at.3,
      )

  -- after the insertion of the pairs of the buckets in turn, a lookup is the same as among
  -- all pairs
  inserted : (q : A) (is : List ℕ) (ys : List (A × B)) → AllZip Picks is ys → (f : A → Option B)
      → (f q ≡ lookup (equal q) pairs)
      ⊎ ((i : ℕ) × Contains is i × ((y : A × B) → Picks i y → equal y.0 q ≡ true))
      → update_all equal f ys q ≡ lookup (equal q) pairs
  inserted q [] [] z f (inl e) = e
  inserted q [] [] z f (inr h) = absurd (omega (arith, h.1.1))
  inserted q [] (y ∷ ys) z f e = absurd z
  inserted q (i ∷ is) [] z f e = absurd z
  inserted q (i ∷ is) (y ∷ ys) z f hit =
      let g : A → Option B = λ x. cond (equal y.0 x) (Some y.1) (f x) in
      elim (cases_Bool (equal y.0 q)) [
        | inl same ↦ inserted q is ys z.1 g (inl (rw same (picked_found i y z.0 q same)))
        | inr other ↦ inserted q is ys z.1 g (rest hit other)
      ]
    where
      rest : (f q ≡ lookup (equal q) pairs)
          ⊎ ((j : ℕ) × Contains (i ∷ is) j × ((x : A × B) → Picks j x → equal x.0 q ≡ true))
          → equal y.0 q ≡ false
          → (cond (equal y.0 q) (Some y.1) (f q) ≡ lookup (equal q) pairs)
          ⊎ ((j : ℕ) × Contains is j × ((x : A × B) → Picks j x → equal x.0 q ≡ true))
      rest (inl e) other = inl (rw other e)
      rest (inr (j, (zero, l, at), h)) other =
          absurd (both_ways (equal y.0 q) other (h y (z.0.0, z.0.1, z.0.2 ∙ at, z.0.3)))
      rest (inr (j, (suc n, l, at), h)) other = inr (j, (n, omega (arith, l), at), h)

  -- the pair in a bucket has the key that a lookup finds among all keys
  picked_key : (i : ℕ) (y : A × B) → Picks i y → (q : A) → equal y.0 q ≡ true
      → find (equal q) (keys_of pairs) ≡ Some y.0
  picked_key i y h q e =
      find_in_distinct equal laws (keys_of pairs) apart y.0
      (key_contained pairs h.0 y h.3) q (laws.symm q y.0 ∙ e)

  -- a lookup finds the same key among the pairs of the buckets and among all pairs
  stored : (q : A) (is : List ℕ) (ys : List (A × B)) → AllZip Picks is ys
      → (lookup (equal q) pairs ≡ None)
      ⊎ ((i : ℕ) × Contains is i × ((y : A × B) → Picks i y → equal y.0 q ≡ true))
      → find (equal q) (keys_of pairs) ≡ find (equal q) (keys_of ys)
  stored q [] [] z (inl none) = no_key (equal q) pairs none
  stored q [] [] z (inr h) = absurd (omega (arith, h.1.1))
  stored q [] (y ∷ ys) z hit = absurd z
  stored q (i ∷ is) [] z hit = absurd z
  stored q (i ∷ is) (y ∷ ys) z hit = elim (cases_Bool (equal y.0 q)) [
    | inl same ↦ picked_key i y z.0 q same ∙ rw (laws.symm q y.0 ∙ same) refl
    | inr other ↦ rw (laws.symm q y.0 ∙ other) (stored q is ys z.1 (left hit other))
  ]
    where
      left : (lookup (equal q) pairs ≡ None)
          ⊎ ((j : ℕ) × Contains (i ∷ is) j × ((x : A × B) → Picks j x → equal x.0 q ≡ true))
          → equal y.0 q ≡ false
          → (lookup (equal q) pairs ≡ None)
          ⊎ ((j : ℕ) × Contains is j × ((x : A × B) → Picks j x → equal x.0 q ≡ true))
      left (inl none) other = inl none
      left (inr (j, (zero, l, at), h)) other =
          absurd (both_ways (equal y.0 q) other (h y (z.0.0, z.0.1, z.0.2 ∙ at, z.0.3)))
      left (inr (j, (suc n, l, at), h)) other = inr (j, (n, omega (arith, l), at), h)

  beyond : (n : ℕ) → n < length homes → length pairs ≤ n → ⊥
  beyond n h g = omega (arith, h, g, count)

  -- the pairs of the buckets
  pick_all : (P : ℕ → A × B → Type 0)
      → ((n : ℕ) (y : A × B) → n < length homes → slice_get pairs n ≡ Some y
      → P (slice_index homes n) y)
      → (is : List ℕ) → All (Contains homes) is → (ys : List (A × B)) × AllZip P is ys
      × AllZip Picks is ys
  pick_all P represents [] all = ([], tt, tt)
  pick_all P represents (i ∷ is) all =
      let home = All-head (Contains homes) i is all in
      let rest = pick_all P represents is (All-tail (Contains homes) i is all) in
      let at : slice_index homes home.0 ≡ i = get_or_default homes home.0 0 i home.1 ∙ home.2 in
      elim (slice_get_cases pairs home.0).1 [
        | inl x ↦ (
          x.0 ∷ rest.0,
          (subst (λ j. P j x.0) at (represents home.0 x.0 home.1 x.2), rest.1),
          ((home.0, home.1, at, x.2), rest.2),
        )
        | inr x ↦ absurd (beyond home.0 home.1 x.0)
      ]

module _ (k v : ElementSpec) (kl : IsElement k) (vl : IsElement v) (w : Width) {A B : Type 0}
    {key : List ℕ → ℕ → A → Type 0} {value : List ℕ → ℕ → B → Type 0}
    (equal : A → A → Bool) (laws : IsEquivalence equal) (hash : List ℕ → ℕ → ℕ) (factor : ℕ × ℕ)
  where
    -- a written map of distinct keys represents a std map with the same lookups as its pairs
    module _ (b : List ℕ) (p : ℕ) (pairs : List (A × B))
        (st : MapRepresents w k v key value hash factor b p pairs)
        (apart : IsDistinct equal (keys_of pairs)) where
      walked : List ℕ
      walked = walk (table_controls w b p) (cap_at w b p)

      pair_there : (n : ℕ) (y : A × B) → n < length st.homes → slice_get pairs n ≡ Some y
          → PairRepresents k v key value b
          (item_at w (entry_spec k v).size b p (slice_index st.homes n)) y
      pair_there n y h e =
          subst (λ q. PairRepresents k v key value b q y)
          (home_pos w (entry_spec k v).size b p st.homes n h) (st.at n y e)

      zip_positions : (is : List ℕ) (ys : List (A × B))
          → AllZip (λ i y. PairRepresents k v key value b (item_at w (entry_spec k v).size b p i) y)
          is ys → ArePairsAt k v key value b (map (item_at w (entry_spec k v).size b p) is) ys
      zip_positions [] [] z = z
      zip_positions [] (y ∷ ys) z = z
      zip_positions (i ∷ is) [] z = z
      zip_positions (i ∷ is) (y ∷ ys) z = (z.0, zip_positions is ys z.1)

      pub reads_written : (ys : List (A × B))
          × ArePairsAt k v key value b (item_positions w (entry_spec k v).size b p) ys
          × ((q : A) → lookup (equal q) pairs ≡ update_all equal (λ _. None) ys q)
          × ((q : A) → find (equal q) (keys_of pairs) ≡ find (equal q) (keys_of ys))
      unfolding walked Hits
      reads_written =
          let visits = homes_visited st in
          let picked = pick_all equal laws pairs apart st.homes visits.once (homes_count st) (λ i y.
          PairRepresents k v key value b (item_at w (entry_spec k v).size b p i) y) pair_there
          walked (All-weaker (Contains walked) (Contains st.homes) (λ i at. (visits.members i).0 at)
          walked
          (All-contains_itself walked)) in (
            picked.0,
            zip_positions walked picked.0 picked.1,
            λ q. sym (inserted equal laws pairs apart st.homes visits.once (homes_count st) q walked
                picked.0 picked.2 (λ _. None)
                (elim (found_picked equal laws pairs apart st.homes visits.once (homes_count st) q
                (lookup (equal q) pairs) refl) [
                  | inl none ↦ inl (sym none)
                  | inr hit ↦ inr (hit.0, (visits.members hit.0).1 hit.1, hit.2)
                ])),
            λ q. stored equal laws pairs apart st.homes visits.once (homes_count st) q walked
                picked.0 picked.2
                (elim (found_picked equal laws pairs apart st.homes visits.once (homes_count st) q
                (lookup (equal q) pairs) refl) [
                  | inl none ↦ inl none
                  | inr hit ↦ inr (hit.0, (visits.members hit.0).1 hit.1, hit.2)
                ]),
          )

    -- written bytes of entries with distinct keys represent them
    pub entries_sound : {R : Type 0} (kind : IsArchiveWord w) (f : Format (List (A × B)) R)
        → IsFormat (map_spec w k v) (MapRepresents w k v key value hash factor) f
        → IsFormat (map_spec w k v) (EntriesRepresent k v key value w equal) (of_entries equal f)
    entries_sound kind f base =
        of_entries-format w kind kl vl factor equal (EntriesRepresent k v key value w equal)
        (λ b p view es st apart. grind (arith, common_steps, reads_written b p es st apart)) f base
