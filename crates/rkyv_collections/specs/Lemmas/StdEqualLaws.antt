-- A std map equals its archived form.
use Rattle.std.proofs.Common.{◌≡◌, ℕ, zero, suc, ◌+◌, ◌<◌, ◌^◌, refl, sym, ap, subst, ◌∙◌, arith}
use Rattle.std.proofs.Common.{Bool, true, false, List, [], ◌∷◌, map, length, slice_get, slice_index}
use Rattle.std.proofs.Common.{Some, get_or}
use Rattle.std.proofs.lemmas.Grind.{common_steps}
use Rattle.std.specs.Cmp.{IsEquivalence}
use Rattle.std.specs.Int.{Width}
use Rattle.std.specs.List.{All, IsDistinct, find}
use Rattle.std.specs.Map.{keys_of}
use Rattle.std.specs.Prelude.{IsSomeAnd}
use Rattle.std.proofs.lemmas.List.{get_or-map, length-map}
use Rattle.std.proofs.lemmas.Map.Keys.{apart_from_distinct}
use Rattle.std.proofs.lemmas.Option.{get_or_from_slice_get, slice_get-get_or, slice_get_within}
use Rattle.rkyv_scan.specs.{Hasher, HasherCall, generic_kind, hash_of_calls}
use Rattle.rkyv_scan.specs.Lemmas.KindLaws.{word_lawful}
use Rattle.rkyv_base.specs.{ElementSpec, Format, IsArchiveWord, IsElement, IsFormat, PairRepresents}
use Rattle.rkyv_base.specs.{ValidAt, Viewable, entry_spec, value_offset}
use Rattle.rkyv_base.specs.Lemmas.Entry.{entry_element}
use Rattle.rkyv_keys.specs.{Comparison, FitsItsEqual, IsQuery, hash_at, hash_of}
use Rattle.rkyv_keys.specs.Lemmas.OfEntries.{valid_key}
use Rattle.rkyv_table.specs.{home_positions, item_at, item_found}
use Rattle.rkyv_table.proofs.FirstFound.{first_found}
use Rattle.rkyv_table.proofs.ValidTable.{item_viewable}
use Rattle.rkyv_table.proofs.WrittenTables.{home_pos, home_walked}
use Rattle.rkyv_collections.specs.{EntriesEqual, FindsPair, MapRepresents, map_spec, of_entries}
use Rattle.rkyv_collections.specs.Lemmas.DistinctEntries.{of_entries-format}
use Rattle.rkyv_collections.specs.Lemmas.PairHomes.{homes_count}

-- the first number of a list that passes the test
find_only : (test : ℕ → Bool) (xs : List ℕ) (n : ℕ) → n < length xs → test (get_or xs n 0) ≡ true
    → ((j : ℕ) → j < n → test (get_or xs j 0) ≡ false)
    → find test xs ≡ Some (get_or xs n 0)
find_only test [] n h here others = absurd (omega (arith, h))
find_only test (x ∷ xs) zero h here others = rw here refl
find_only test (x ∷ xs) (suc n) h here others =
    rw (others 0 (omega arith)) (find_only test xs n (omega (arith, h)) here (λ j l.
    others (suc j) (omega (arith, l))))

module _ (w : Width) (k v : ElementSpec) (kl : IsElement k) (vl : IsElement v) {A B : Type 0}
    (key : List ℕ → ℕ → A → Type 0) (equals : List ℕ → ℕ → B → Type 0)
    (own : A → ℕ) (there : List ℕ → ℕ → ℕ) (fits : A → List ℕ → ℕ → Bool) (equal : A → A → Bool)
    (same_hash : (q : A) (b : List ℕ) (p : ℕ) → ValidAt k b p → fits q b p ≡ true
    → there b p ≡ own q) (native : FitsItsEqual k key equal fits) (laws : IsEquivalence equal)
    (factor : ℕ × ℕ) where
  module _ (b : List ℕ) (p : ℕ) (view : Viewable (map_spec w k v) b p) (pairs : List (A × B))
      (st : MapRepresents w k v key equals there factor b p pairs)
      (apart : IsDistinct equal (keys_of pairs)) where
    abbrev size : ℕ
    size = (entry_spec k v).size

    abbrev hashes : List ℕ
    hashes = map (there b) (home_positions w size b p st.homes)

    abbrev item_pos : ℕ → ℕ
    item_pos i = item_at w size b p (slice_index st.homes i)

    hashes_total : length hashes ≡ length st.homes
    hashes_total = grind (arith, common_steps, length-map)

    key_valid : (i : ℕ) → i < length st.homes → ValidAt k b (item_pos i)
    key_valid i h =
        valid_key kl vl b (item_pos i)
        (item_viewable w (entry_spec k v) (entry_element k v kl vl) b p view
        (slice_index st.homes i) (home_walked w b p hashes st.homes st.written i h)).valid

    pair_represents : (i : ℕ) (y : A × B) → i < length st.homes → slice_get pairs i ≡ Some y
        → PairRepresents k v key equals b (item_pos i) y
    pair_represents i y h e = subst (λ q. PairRepresents k v key equals b q y)
        (home_pos w size b p st.homes i h) (st.at i y e)

    fits_is : (q : A) (i : ℕ) (y : A × B) → i < length st.homes → slice_get pairs i ≡ Some y
        → fits q b (item_pos i) ≡ equal q y.0
    fits_is q i y h e = native q y.0 b (item_pos i) (key_valid i h) (pair_represents i y h e).0

    hash_is : (i : ℕ) → i < length st.homes → slice_index hashes i ≡ there b (item_pos i)
    hash_is i h =
        let n = length-map st.homes (item_at w size b p) in
        get_or-map (there b) (home_positions w size b p st.homes) i 0 0 (omega (arith, n, h))
        ∙ ap (there b) (home_pos w size b p st.homes i h)

    under : (q : A) (i : ℕ) → i < length st.homes → fits q b (item_pos i) ≡ true
        → there b (item_pos i) ≡ own q
    under q i h = same_hash q b (item_pos i) (key_valid i h)

    key_of : (i : ℕ) (y : A × B) (d : A) → slice_get pairs i ≡ Some y
        → get_or (keys_of pairs) i d ≡ y.0
    key_of i y d e =
        get_or-map (λ (x : A × B). x.0) pairs i y d (slice_get_within pairs i y e)
        ∙ ap (λ (x : A × B). x.0) (get_or_from_slice_get pairs i y y e)

    no_other : (n : ℕ) (y : A × B) → slice_get pairs n ≡ Some y → (j : ℕ) → j < n
        → fits y.0 b (item_pos j) ≡ false
    no_other n y e j less =
        let inside = slice_get_within pairs n y e in
        let below : j < length st.homes = omega (arith, less, inside, homes_count st) in
        let x = get_or pairs j y in
        let at = slice_get-get_or pairs j y (omega (arith, less, inside)) in
        let count = length-map pairs (λ (z : A × B). z.0) in
        fits_is y.0 j x below at ∙ laws.symm y.0 x.0
        ∙ ap (λ z. equal z y.0) (sym (key_of j x y.0 at))
        ∙ ap (equal (get_or (keys_of pairs) j y.0)) (sym (key_of n y y.0 e))
        ∙ apart_from_distinct equal (keys_of pairs) j n y.0 apart less
        (omega (arith, inside, count))

    pair_found : (n : ℕ) (y : A × B) → slice_get pairs n ≡ Some y
        → item_found w size b p (own y.0) (fits y.0 b) ≡ Some (item_pos n)
    pair_found n y e =
        let inside = slice_get_within pairs n y e in
        let below : n < length st.homes = omega (arith, inside, homes_count st) in
        let positions = home_positions w size b p st.homes in
        let total = length-map st.homes (item_at w size b p) in
        let here : fits y.0 b (item_pos n) ≡ true = fits_is y.0 n y below e ∙ laws.refl y.0 in
        let small : own y.0 < 2 ^ 64 = grind (arith, hash_is, under, hashes_total) in
        first_found generic_kind word_lawful w size b p (own y.0) small hashes st.homes (fits y.0 b)
        st.written
        (λ i h accepted. grind (arith, hashes_total, hash_is, under, home_pos))
        ∙ find_only (fits y.0 b) positions n (omega (arith, below, total))
        (ap (fits y.0 b) (home_pos w size b p st.homes n below) ∙ here)
        (λ j less. ap (fits y.0 b) (home_pos w size b p st.homes j (omega (arith, less, below)))
        ∙ no_other n y e j less)
        ∙ ap Some (home_pos w size b p st.homes n below)

    pub each_found : All (FindsPair w k v own fits equals b p) pairs
    each_found n d h =
        let y = get_or pairs n d in
        let e = slice_get-get_or pairs n d h in
        subst (λ o. IsSomeAnd o (λ q. equals b (q + value_offset k v) y.1)) (sym (pair_found n y e))
        (pair_represents n y (omega (arith, h, homes_count st)) e).1

  -- in any archive with the written bytes of a std map, the map there equals it
  pub written_equal : {R : Type 0} (kind : IsArchiveWord w) (f : Format (List (A × B)) R)
      → IsFormat (map_spec w k v) (MapRepresents w k v key equals there factor) f
      → IsFormat (map_spec w k v) (EntriesEqual w k v own fits equals) (of_entries equal f)
  written_equal kind f base =
      of_entries-format w kind kl vl factor equal (EntriesEqual w k v own fits equals)
      (λ b p view es st apart. (st.len, each_found b p view es st apart)) f base

-- the same for keys that are looked up by themselves
pub entries_equal : {State : Type 0} (hasher : Hasher State) (w : Width) (kind : IsArchiveWord w)
    {k v : ElementSpec} (kl : IsElement k) (vl : IsElement v) {A B R : Type 0}
    {key : List ℕ → ℕ → A → Type 0} {equals : List ℕ → ℕ → B → Type 0} {same : Comparison}
    {key_calls : List ℕ → ℕ → List HasherCall} {calls : A → List HasherCall}
    {fits : A → List ℕ → ℕ → Bool} {equal : A → A → Bool} (factor : ℕ × ℕ)
    → IsQuery k same key_calls calls fits → FitsItsEqual k key equal fits → IsEquivalence equal
    → (f : Format (List (A × B)) R)
    → IsFormat (map_spec w k v) (MapRepresents w k v key equals (hash_at hasher key_calls) factor) f
    → IsFormat (map_spec w k v) (EntriesEqual w k v (hash_of hasher calls) fits equals)
    (of_entries equal f)
entries_equal hasher w kind {k} {v} kl vl {A} {B} {R} {key} {equals} {same} {key_calls} {calls}
    {fits} {equal} factor query native laws f base =
    written_equal w k v kl vl key equals (hash_of hasher calls) (hash_at hasher key_calls) fits
    equal
    (λ q b p h yes'. ap (hash_of_calls hasher) (sym (query.same_calls q b p h yes')))
    native laws factor kind f base
