-- Equal maps have the same pairs.
use Rattle.std.proofs.lemmas.Grind.{common_steps}
use Rattle.std.proofs.Common.{◌≡◌, ℕ, ◌+◌, ◌<◌, ◌∙◌, inl, inr, refl, sym, ap, arith, subst, List, Bool, true, false, Option, Some, eqb, get_or, length}
use Rattle.std.specs.Int.{Width}
use Rattle.std.specs.List.{find, list_all, position_or_len}
use Rattle.std.specs.Option.{option_map, unwrap_or}
use Rattle.std.proofs.lemmas.Bool.{and_from, and_parts, both_ways, eq-eqb, eqb-true}
use Rattle.std.proofs.lemmas.List.{get_or_default, length-map}
use Rattle.std.proofs.lemmas.List.Folds.{find_at}
use Rattle.std.proofs.lemmas.Option.{same_Some, slice_get-get_or}
use Rattle.rkyv_base.specs.{ElementSpec, IsElement, ValidAt, entry_spec, value_offset}
use Rattle.rkyv_keys.specs.{Comparison, IsEquivalence, entry_same}
use Rattle.rkyv_keys.specs.Lemmas.OfEntries.{entry_equivalence}
use Rattle.rkyv_table.specs.{home_positions, item_at, item_positions, len_at}
use Rattle.rkyv_table.proofs.Lists.{any_member, contains_member, none_find, some_find}
use Rattle.rkyv_table.proofs.Search.{cases_option}
use Rattle.rkyv_table.proofs.Written.{first_within}
use Rattle.rkyv_collections.specs.{EachIsIn, EqualHaveSamePairs, IsWrittenApart, pair_at, pair_matches}
use Rattle.rkyv_collections.proofs.Matching.{IsMatching, column_matched, rows_within}
use Rattle.rkyv_collections.proofs.WrittenPairs.{all_inserted, all_walked, first_accepted, hash_small, key_valid, len_is_count, pair_valid, pos_of_pair}

-- the first number of a list that passes the test has an index
found_index : (test : ℕ → Bool) (xs : List ℕ) (x : ℕ) → find test xs ≡ Some x → (j : ℕ) × (j < length xs) × (get_or xs j 0 ≡ x)
found_index test xs x e =
    let some = some_find test xs x e in
    let inside = first_within test xs some.0 in
    let j = position_or_len test xs in
    (j, inside, same_Some (get_or xs j 0) x (sym (slice_get-get_or xs j 0 inside) ∙ sym (find_at test xs) ∙ e))

get_or_itself : (xs : List ℕ) (i : ℕ) → i < length xs → get_or xs i (get_or xs i 0) ≡ get_or xs i 0
get_or_itself xs i h = sym (get_or_default xs i 0 (get_or xs i 0) h)

module _ (w : Width) (k v : ElementSpec) (kl : IsElement k) (vl : IsElement v) (key_hash : List ℕ → ℕ → ℕ) (same_key same_value : Comparison)
    (ke : IsEquivalence k same_key) (ve : IsEquivalence v same_value)
    (same_hash : (b c : List ℕ) (q r : ℕ) → ValidAt k b q → ValidAt k c r → same_key b q c r ≡ true → key_hash b q ≡ key_hash c r) where
  module _ (b c : List ℕ) (p r : ℕ) (homes others : List ℕ) (first : IsWrittenApart w k v key_hash same_key same_value b p homes)
      (second : IsWrittenApart w k v key_hash same_key same_value c r others) where
    own_valid : (i : ℕ) → i < length homes → ValidAt k b (pair_at w k v b p homes i)
    own_valid = key_valid w k v kl vl key_hash b p homes first.valid first.written

    other_valid : (j : ℕ) → j < length others → ValidAt k c (pair_at w k v c r others j)
    other_valid = key_valid w k v kl vl key_hash c r others second.valid second.written

    -- the value of the pair `i` of the first map is the same as the value of the pair at `key_pos`
    same_at : ℕ → ℕ → Bool
    same_at i key_pos = same_value b (pair_at w k v b p homes i + value_offset k v) c (key_pos + value_offset k v)

    -- the key of a pair of the first map is looked up among the keys of the second,
    -- in insertion order
    matches_is : (i : ℕ) → i < length homes → pair_matches w k v key_hash same_key same_value b (pair_at w k v b p homes i) c r
        ≡ unwrap_or (option_map (same_at i) (find (same_key b (pair_at w k v b p homes i) c) (home_positions w (entry_spec k v).size c r others))) false
    unfolding same_at
    matches_is i h =
        let q = pair_at w k v b p homes i in
        ap (λ (found : Option ℕ). unwrap_or (option_map (same_at i) found) false)
        (first_accepted w k v kl vl key_hash c r others second.valid second.written (key_hash b q) (same_key b q c) (hash_small w k v kl vl key_hash b p homes first.valid first.written i h)
        (λ j l fits. sym (same_hash b c q (pair_at w k v c r others j) (own_valid i h) (other_valid j l) fits)))

    -- a matched pair is the same as one of the other map
    match_same : (i : ℕ) → i < length homes → pair_matches w k v key_hash same_key same_value b (pair_at w k v b p homes i) c r ≡ true
        → (j : ℕ) × (j < length others) × (entry_same k v same_key same_value b (pair_at w k v b p homes i) c (pair_at w k v c r others j) ≡ true)
    unfolding same_at
    match_same i h matched =
        let q = pair_at w k v b p homes i in
        let xs = home_positions w (entry_spec k v).size c r others in
        let n = length-map others (item_at w (entry_spec k v).size c r) in
        let e = sym (matches_is i h) ∙ matched in
        elim (cases_option (find (same_key b q c) xs)) [
          | inl none ↦ absurd (both_ways false refl (rw none at e))
          | inr some ↦
              let value : same_at i some.0 ≡ true = rw some.1 at e in
              grind (arith, common_steps, some_find (same_key b q c) xs some.0 some.1, found_index (same_key b q c) xs some.0 some.1, pos_of_pair, and_from)
        ]

    -- a pair that is the same as one of the other map is matched
    same_matches : (i j : ℕ) → i < length homes → j < length others
        → entry_same k v same_key same_value b (pair_at w k v b p homes i) c (pair_at w k v c r others j) ≡ true
        → pair_matches w k v key_hash same_key same_value b (pair_at w k v b p homes i) c r ≡ true
    unfolding same_at
    same_matches i j h l same =
        let q = pair_at w k v b p homes i in
        let x = pair_at w k v c r others j in
        let xs = home_positions w (entry_spec k v).size c r others in
        let n = length-map others (item_at w (entry_spec k v).size c r) in
        let both = and_parts (same_key b q c x) (same_value b (q + value_offset k v) c (x + value_offset k v)) same in
        let there = pos_of_pair w k v kl vl key_hash c r others second.valid second.written j l in
        elim (cases_option (find (same_key b q c) xs)) [
          | inl none ↦
              let member = contains_member (get_or xs j 0) xs (j, omega arith, get_or_itself xs j (omega arith)) in
              absurd (both_ways _ (none_find (same_key b q c) xs none) (any_member (same_key b q c) (get_or xs j 0) xs member (ap (same_key b q c) there ∙ both.0)))
          | inr some ↦
              let key = (some_find (same_key b q c) xs some.0 some.1).1 in
              let index = found_index (same_key b q c) xs some.0 some.1 in
              let inside : index.0 < length others = omega (arith, index.1) in
              let y = pair_at w k v c r others index.0 in
              let is : y ≡ some.0 = sym (pos_of_pair w k v kl vl key_hash c r others second.valid second.written index.0 inside) ∙ index.2 in
              let found_key : same_key b q c y ≡ true = subst (λ z. same_key b q c z ≡ true) (sym is) key in
              let turned = ke.symmetric b c q x (own_valid i h) (other_valid j l) both.0 in
              let one : j ≡ index.0 = second.apart j index.0 l inside (ke.transitive c b c x q y (other_valid j l) (own_valid i h) (other_valid index.0 inside) turned found_key) in
              let here : x ≡ some.0 = ap (pair_at w k v c r others) one ∙ is in
              matches_is i h ∙ rw some.1 (subst (λ z. same_at i z ≡ true) here both.1)
        ]

    -- the pairs of the first map are matched with the second map's, no two with the same one
    matching : EachIsIn w k v key_hash same_key same_value b p homes c r others
        → IsMatching (length homes) (length others) (λ i j. entry_same k v same_key same_value b (pair_at w k v b p homes i) c (pair_at w k v c r others j))
    matching each = record {
      each = each;
      apart = λ i i' j h h' l one two.
          let q = pair_at w k v b p homes i in
          let q' = pair_at w k v b p homes i' in
          let x = pair_at w k v c r others j in
          let key = (and_parts (same_key b q c x) (same_value b (q + value_offset k v) c (x + value_offset k v)) one).0 in
          let key' = (and_parts (same_key b q' c x) (same_value b (q' + value_offset k v) c (x + value_offset k v)) two).0 in
          let turned = ke.symmetric b c q' x (own_valid i' h') (other_valid j l) key' in
          first.apart i i' h h' (ke.transitive b c b q x q' (own_valid i h) (other_valid j l) (own_valid i' h') key turned);
    }

  pub equal_have_same_pairs : EqualHaveSamePairs w k v key_hash same_key same_value
  equal_have_same_pairs b c p r homes others first second =
      let same : ℕ → ℕ → Bool = λ i j. entry_same k v same_key same_value b (pair_at w k v b p homes i) c (pair_at w k v c r others j) in
      let matches : ℕ → Bool = λ q. pair_matches w k v key_hash same_key same_value b q c r in
      let every : Bool = list_all matches (item_positions w (entry_spec k v).size b p) in
      let count = len_is_count w k v kl vl key_hash b p homes first.valid first.written in
      let count' = len_is_count w k v kl vl key_hash c r others second.valid second.written in
      let equivalence = entry_equivalence kl vl ke ve in (
        λ equal.
            let t = and_parts (eqb (len_at w b p) (len_at w c r)) every equal in
            let n : length homes ≡ length others = sym count ∙ eqb-true (len_at w b p) (len_at w c r) t.0 ∙ count' in
            let each : EachIsIn w k v key_hash same_key same_value b p homes c r others = λ i h.
            match_same b c p r homes others first second i h (all_inserted w k v kl vl key_hash b p homes first.valid first.written matches t.1 i h) in (
              each,
              λ j l.
                  let row = column_matched (length homes) (length others) same (matching b c p r homes others first second each) n j l in (
                    row.0,
                    row.1,
                    equivalence.symmetric b c (pair_at w k v b p homes row.0) (pair_at w k v c r others j)
                        (pair_valid w k v kl vl key_hash b p homes first.valid first.written row.0 row.1) (pair_valid w k v kl vl key_hash c r others second.valid second.written j l) row.2,
                  ),
            ),
        λ both.
            let few = rows_within (length homes) (length others) same (matching b c p r homes others first second both.0) in
            let back : ℕ → ℕ → Bool = λ i j. entry_same k v same_key same_value c (pair_at w k v c r others i) b (pair_at w k v b p homes j) in
            let few' = rows_within (length others) (length homes) back (matching c b r p others homes second first both.1) in
            and_from (eqb (len_at w b p) (len_at w c r)) every (eq-eqb (len_at w b p) (len_at w c r) (omega arith))
            (all_walked w k v kl vl key_hash b p homes first.valid first.written matches
            (λ i h. let d = both.0 i h in same_matches b c p r homes others first second i d.0 h d.1 d.2)),
      )
