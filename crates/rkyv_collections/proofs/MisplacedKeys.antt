-- Keys of a map that a lookup of their own doesn't find.
use Rattle.std.proofs.lemmas.Grind.{common_steps}
use Rattle.std.proofs.Common.{◌≡◌, ℕ, ◌^◌, ◌<◌, ◌||◌, ◌∷◌, [], ◌∙◌, inl, inr, refl, sym, ap, arith, subst, List, Bool, true, length, filter, map, take, slice_index}
use Rattle.std.specs.Int.{Width}
use Rattle.std.specs.List.{Contains, list_any, range_with_len}
use Rattle.std.proofs.lemmas.List.{get_or-map, get_or_default, length-map, nil_from_length, take-map}
use Rattle.rkyv_scan.specs.{Hasher, HasherCall, generic_kind, hash_of_calls}
use Rattle.rkyv_scan.specs.Lemmas.KindLaws.{word_lawful}
use Rattle.rkyv_scan.proofs.Indices.{range_agree}
use Rattle.rkyv_base.specs.{ElementSpec, IsElement, ValidAt, Viewable, entry_spec}
use Rattle.rkyv_base.specs.Lemmas.Entry.{entry_element}
use Rattle.rkyv_keys.specs.{Comparison, IsEquivalence, IsQuery, hash_at}
use Rattle.rkyv_keys.specs.Lemmas.OfEntries.{valid_key}
use Rattle.rkyv_table.specs.{IsOnlyAccepted, IsSameness, cap_at, home_positions, item_at, item_found, misplaced, repeated, repeats_earlier, table_controls}
use Rattle.rkyv_table.proofs.ValidTable.{item_viewable}
use Rattle.rkyv_table.proofs.ItemLookups.{only_found}
use Rattle.rkyv_table.proofs.Misplaced.{repeated_misplaced}
use Rattle.rkyv_table.proofs.RawWalks.{walk_count}
use Rattle.rkyv_collections.specs.{IsKeyPosAt, MapWrittenAt, RepeatedKeysAreMisplaced, map_misplaced, map_spec, pair_at}
use Rattle.rkyv_collections.proofs.WrittenPairs.{hash_of_pair, len_is_count, pair_valid}

-- the number of repeated items is the number of repeated positions
module _ (at : ℕ → ℕ) (same : ℕ → ℕ → Bool) (homes : List ℕ) where
  any_earlier : (x : ℕ) (is : List ℕ) → list_any (λ j. same x (at j)) is ≡ list_any (same x) (map at is)
  any_earlier x [] = refl
  any_earlier x (j ∷ is) = ap (λ rest. same x (at j) || rest) (any_earlier x is)

  pub repeated_positions : repeated (λ i j. same (at i) (at j)) homes ≡ repeated same (map at homes)
  repeated_positions =
      let n = length-map homes at in
      ap length (range_agree (repeats_earlier (λ i j. same (at i) (at j)) homes) (repeats_earlier same (map at homes)) 0 (length homes)
      (λ i from to.
      ap (λ x. list_any (λ j. same x (at j)) (take i homes)) (sym (get_or-map at homes i 0 0 (omega arith)))
      ∙ any_earlier (slice_index (map at homes) i) (take i homes)
      ∙ ap (list_any (same (slice_index (map at homes) i))) (sym (take-map at i homes))))
      ∙ ap (λ (m : ℕ). length (filter (repeats_earlier same (map at homes)) (range_with_len 0 m))) (sym n)

module _ (w : Width) (k v : ElementSpec) (kl : IsElement k) (vl : IsElement v) (key_hash : List ℕ → ℕ → ℕ) (same_key : Comparison)
    (equivalence : IsEquivalence k same_key)
    (same_hash : (b c : List ℕ) (q r : ℕ) → ValidAt k b q → ValidAt k c r → same_key b q c r ≡ true → key_hash b q ≡ key_hash c r) where
  module _ (b : List ℕ) (p : ℕ) (homes : List ℕ) (view : Viewable (map_spec w k v) b p) (written : MapWrittenAt w (entry_spec k v) key_hash b p homes) where
    abbrev at : ℕ → ℕ
    at = item_at w (entry_spec k v).size b p

    abbrev hashes : List ℕ
    hashes = map (key_hash b) (home_positions w (entry_spec k v).size b p homes)

    key_there : (i : ℕ) → Contains homes i → ValidAt k b (at i)
    key_there i c =
        let is : slice_index homes c.0 ≡ i = get_or_default homes c.0 0 i c.1 ∙ c.2 in
        subst (λ x. ValidAt k b (at x)) is (valid_key kl vl b (pair_at w k v b p homes c.0) (pair_valid w k v kl vl key_hash b p homes view written c.0 c.1))

    sameness : IsSameness (λ i. key_hash b (at i)) (λ i j. same_key b (at i) b (at j)) hashes homes
    sameness = grind (arith, hash_of_pair, key_there)

    repeated_keys : map_misplaced w k v key_hash same_key b p ≡ repeated (λ q r. same_key b q b r) (home_positions w (entry_spec k v).size b p homes)
    repeated_keys = elim written.placed [
      | inl none ↦ grind (arith, common_steps, walk_count w (entry_spec k v) (entry_element k v kl vl) b p view, entry_element k v kl vl, len_is_count w k v kl vl key_hash b p homes view written, nil_from_length)
      | inr some ↦
          ap (λ n. misplaced generic_kind (table_controls w b p) (cap_at w b p) n (λ i. key_hash b (at i)) (λ i j. same_key b (at i) b (at j))) written.count
          ∙ repeated_misplaced generic_kind (cap_at w b p) hashes homes (table_controls w b p) (λ i. key_hash b (at i)) (λ i j. same_key b (at i) b (at j)) word_lawful
          some.0 (λ j l. written.fit j 0 l) some.1 sameness
          ∙ repeated_positions at (λ q r. same_key b q b r) homes
    ]

  pub repeated_keys_misplaced : RepeatedKeysAreMisplaced w k v (record { hash = key_hash; same = same_key })
  repeated_keys_misplaced b p homes view written = repeated_keys b p homes view written

-- if no key is misplaced, a lookup finds the only key that fits
module _ {Q State : Type 0} (w : Width) (k v : ElementSpec) (kl : IsElement k) (vl : IsElement v) (hasher : Hasher State)
    (same : Comparison) (key_calls : List ℕ → ℕ → List HasherCall) (calls : Q → List HasherCall) (fits : Q → List ℕ → ℕ → Bool)
    (query : IsQuery k same key_calls calls fits) (b : List ℕ) (p : ℕ) (view : Viewable (map_spec w k v) b p) (q : Q)
    (small : hash_of_calls hasher (calls q) < 2 ^ 64) (none : map_misplaced w k v (hash_at hasher key_calls) same b p ≡ 0) where
  key_valid : (r : ℕ) → IsKeyPosAt w k v b p r → ValidAt k b r
  key_valid r at =
      subst (ValidAt k b) (sym at.2) (valid_key kl vl b (item_at w (entry_spec k v).size b p at.0) (item_viewable w (entry_spec k v) (entry_element k v kl vl) b p view at.0 at.1).valid)

  pub finds_only_key : IsOnlyAccepted w (entry_spec k v).size b p (fits q b) (item_found w (entry_spec k v).size b p (hash_of_calls hasher (calls q)) (fits q b))
  finds_only_key =
      only_found w (entry_spec k v) (entry_element k v kl vl) b p (hash_of_calls hasher (calls q)) (fits q b) (hash_at hasher key_calls b) (λ r s. same b r b s) view small none
      (λ r at ok. ap (hash_of_calls hasher) (sym (query.same_calls q b r (key_valid r at) ok)))
      (λ r s at other ok. query.respects_same q b b r s (key_valid r at) (key_valid s other) ok)
