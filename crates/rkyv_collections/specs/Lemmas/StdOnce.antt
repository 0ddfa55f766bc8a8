-- The std maps that one archived map represents are equal.
use Rattle.std.proofs.Common.{◌≡◌, ℕ, ◌+◌, refl, sym, ap, ◌∙◌, inl, inr, arith, Bool, true}
use Rattle.std.proofs.Common.{cond, List, [], ◌∷◌, Option, Some, None}
use Rattle.std.proofs.lemmas.Grind.{common_steps}
use Rattle.std.specs.Cmp.{IsEquivalence}
use Rattle.std.specs.HashMap.{HashMap, entries_eq, get, hash_map_eq}
use Rattle.std.specs.HashSet.{HashSet, hash_set_eq}
use Rattle.std.specs.Int.{Width}
use Rattle.std.specs.List.{All, AllZip, list_all, list_any}
use Rattle.std.specs.Map.{keys_of, lookup, lookup_entry, update_all}
use Rattle.std.specs.Option.{option_eq, option_map}
use Rattle.std.proofs.lemmas.Bool.{and_from, cases_Bool, true≢false}
use Rattle.std.proofs.lemmas.List.Elements.{All-head, All-map, All-tail, All-weaker}
use Rattle.std.proofs.lemmas.List.Sums.{list_all-from_AllPass}
use Rattle.std.proofs.lemmas.Map.Made.{All-is_member}
use Rattle.rkyv_base.specs.{ElementSpec, IsElement, ValidAt, entry_spec, unit_represents, unit_spec}
use Rattle.rkyv_base.specs.{value_offset}
use Rattle.rkyv_base.specs.Lemmas.Empty.{unit_element}
use Rattle.rkyv_base.specs.Lemmas.Entry.{entry_element}
use Rattle.rkyv_base.specs.Lemmas.ElementSpec.{valid_at}
use Rattle.rkyv_keys.specs.{RepresentsUniquely}
use Rattle.rkyv_keys.specs.Lemmas.OfEntries.{valid_key, valid_value}
use Rattle.rkyv_table.specs.{IsWalked, cap_at, item_at, item_positions, table_controls, walk}
use Rattle.rkyv_table.specs.{with_units}
use Rattle.rkyv_table.specs.Lemmas.ItemPositions.{item_is_valid, valid_part}
use Rattle.rkyv_table.proofs.RawWalks.{walked_all}
use Rattle.rkyv_collections.specs.{ArePairsAt, EntriesRepresent, StdMapRepresents, StdSetRepresents}
use Rattle.rkyv_collections.specs.{map_spec, set_spec}
use Rattle.rkyv_collections.specs.Lemmas.StdSet.{unit_lookup}

module _ {A B : Type 0} (equal : A → A → Bool) (laws : IsEquivalence equal) (same : B → B → Bool)
  where
    -- equal keys and equal values
    abbrev Alike : A × B → A × B → Type 0
    Alike p q = (equal p.0 q.0 ≡ true) × (same p.1 q.1 ≡ true)

    inserted_alike : (ps qs : List (A × B)) → AllZip Alike ps qs → (f g : A → Option B) (x : A)
        → option_eq same (f x) (g x) ≡ true
        → option_eq same (update_all equal f ps x) (update_all equal g qs x) ≡ true
    inserted_alike [] [] z f g x h = h
    inserted_alike [] (q ∷ qs) z f g x h = absurd z
    inserted_alike (p ∷ ps) [] z f g x h = absurd z
    inserted_alike (p ∷ ps) (q ∷ qs) z f g x h =
        let both : equal p.0 x ≡ equal q.0 x = laws.congr p.0 q.0 x z.0.0 in
        inserted_alike ps qs z.1 (λ y. cond (equal p.0 y) (Some p.1) (f y)) (λ y.
        cond (equal q.0 y) (Some q.1) (g y)) x
        (elim (cases_Bool (equal p.0 x)) [
          | inl here ↦ let there : equal q.0 x ≡ true = sym both ∙ here in rw (here, there) z.0.1
          | inr other ↦ let there = sym both ∙ other in rw (other, there) h
        ])

    lookup_of_entry : (test : A → Bool) (es : List (A × B))
        → lookup test es ≡ option_map (λ (e : A × B). e.1) (lookup_entry test es)
    lookup_of_entry test [] = refl
    lookup_of_entry test (e ∷ es) = grind (arith, common_steps, cases_Bool, lookup_of_entry test es)

    agreed : (o r : Option (A × B))
        → option_eq (λ p q. same p.1 q.1) o r
        ≡ option_eq same (option_map (λ (e : A × B). e.1) o) (option_map (λ (e : A × B). e.1) r)
    agreed found o = grind (arith, common_steps)

    all_pass : {X : Type 0} (test : X → Bool) → ((x : X) → test x ≡ true) → (xs : List X)
        → list_all test xs ≡ true
    all_pass test h [] = refl
    all_pass test h (x ∷ xs) = and_from (test x) (list_all test xs) (h x) (all_pass test h xs)

    maps_alike : {S : Type 0} (m n : HashMap A B S)
        → ((x : A) → option_eq same (get equal m x) (get equal n x) ≡ true)
        → hash_map_eq equal same m n ≡ true
    unfolding entries_eq
    maps_alike m n h =
        let test : A → Bool = λ k. option_eq (λ p q. same p.1 q.1)
        (lookup_entry (equal k) m.entries)
        (lookup_entry (equal k) n.entries) in
        let each : (k : A) → test k ≡ true = λ k.
        agreed (lookup_entry (equal k) m.entries) (lookup_entry (equal k) n.entries)
        ∙ ap (λ o. option_eq same o (option_map (λ (e : A × B). e.1)
        (lookup_entry (equal k) n.entries))) (sym (lookup_of_entry (equal k) m.entries))
        ∙ ap (option_eq same (lookup (equal k) m.entries))
        (sym (lookup_of_entry (equal k) n.entries))
        ∙ h k in
        and_from (list_all test (keys_of m.entries)) (list_all test (keys_of n.entries))
        (all_pass test each (keys_of m.entries)) (all_pass test each (keys_of n.entries))

    module _ (k v : ElementSpec) (kl : IsElement k) (vl : IsElement v) (w : Width)
        (key : List ℕ → ℕ → A → Type 0) (value : List ℕ → ℕ → B → Type 0)
        (ka : RepresentsUniquely k key equal) (va : RepresentsUniquely v value same) where
      entry_valid : (b : List ℕ) (p : ℕ) → ValidAt (map_spec w k v) b p → (i : ℕ)
          → IsWalked w b p i → ValidAt (entry_spec k v) b (item_at w (entry_spec k v).size b p i)
      entry_valid b p st i walked =
          let s = entry_spec k v in
          let law = entry_element k v kl vl in
          let t = valid_part w s law b p 0 p st.0 st.1 (omega (arith, walked.0)) in
          let one = item_is_valid w s law b p 0 p st.0 st.1 i walked t in
          valid_at s law b (item_at w s.size b p i) one.0.lower t.begin one.0.rest one.0.below one.1
          one.0.is_valid

      zip_alike : (b : List ℕ) (positions : List ℕ) (ps qs : List (A × B))
          → All (ValidAt (entry_spec k v) b) positions → ArePairsAt k v key value b positions ps
          → ArePairsAt k v key value b positions qs → AllZip Alike ps qs
      zip_alike b [] [] [] all r t = tt
      zip_alike b [] [] (q ∷ qs) all r t = absurd t
      zip_alike b [] (p ∷ ps) qs all r t = absurd r
      zip_alike b (x ∷ xs) [] qs all r t = absurd r
      zip_alike b (x ∷ xs) (p ∷ ps) [] all r t = absurd t
      zip_alike b (x ∷ xs) (p ∷ ps) (q ∷ qs) all r t =
          let here = All-head (ValidAt (entry_spec k v) b) x xs all in (
            (
              ka p.0 q.0 b x (valid_key kl vl b x here) r.0.0 t.0.0,
              va p.1 q.1 b (x + value_offset k v) (valid_value kl vl b x here) r.0.1 t.0.1,
            ),
            zip_alike b xs ps qs (All-tail (ValidAt (entry_spec k v) b) x xs all) r.1 t.1,
          )

      -- two lists of entries that one map represents have equal values at each key
      pub entries_alike : (b : List ℕ) (p : ℕ) → ValidAt (map_spec w k v) b p
          → (es fs : List (A × B)) → EntriesRepresent k v key value w equal b p es
          → EntriesRepresent k v key value w equal b p fs → (q : A)
          → option_eq same (lookup (equal q) es) (lookup (equal q) fs) ≡ true
      entries_alike b p st es fs x y q =
          let s = entry_spec k v in
          let ws = walk (table_controls w b p) (cap_at w b p) in
          let all : All (ValidAt s b) (item_positions w s.size b p) =
          All-map (ValidAt s b) (item_at w s.size b p) ws
          (All-weaker (IsWalked w b p) (λ i. ValidAt s b (item_at w s.size b p i))
          (entry_valid b p st) ws (walked_all w s (entry_element k v kl vl) b p)) in
          grind (arith, common_steps, zip_alike, inserted_alike)

      pub std_map_once : {S : Type 0}
          → RepresentsUniquely {V =
          HashMap A B S} (map_spec w k v) (StdMapRepresents k v key value w equal)
          (hash_map_eq equal same)
      std_map_once m n b p st x y = maps_alike m n (entries_alike b p st m.entries n.entries x y)

-- keys, each with the unit value
module _ {A : Type 0} (equal : A → A → Bool) (laws : IsEquivalence equal) where
  same_test : (unit : Unit {0}) (s t : Bool)
      → option_eq (λ x y. true) (cond s (Some unit) None) (cond t (Some unit) None) ≡ true → s ≡ t
  same_test unit b t h = grind (arith, common_steps, true≢false)

  pub std_set_once : {S : Type 0} (k : ElementSpec) → IsElement k
      → (w : Width) (key : List ℕ → ℕ → A → Type 0) → RepresentsUniquely k key equal
      → RepresentsUniquely {V = HashSet A S} (set_spec w k) (StdSetRepresents k key w equal)
      (hash_set_eq equal)
  std_set_once k kl w key ka s t b p st x y =
      let unit : Unit {0} = tt in
      let same : (q : A) → list_any (equal q) s.keys ≡ list_any (equal q) t.keys = λ q.
      same_test unit (list_any (equal q) s.keys) (list_any (equal q) t.keys)
      (ap (λ o. option_eq (λ x y. true) o (cond (list_any (equal q) t.keys) (Some unit) None))
      (sym (unit_lookup (equal q) s.keys))
      ∙ ap (option_eq (λ x y. true) (lookup (equal q) (with_units s.keys)))
      (sym (unit_lookup (equal q) t.keys))
      ∙ entries_alike equal laws (λ x y. true) k unit_spec kl unit_element w key unit_represents ka
      (λ v z c r h i j. refl) b p st (with_units s.keys) (with_units t.keys) x y q) in
      and_from (list_all (λ q. list_any (equal q) t.keys) s.keys)
      (list_all (λ q. list_any (equal q) s.keys) t.keys)
      (list_all-from_AllPass (λ q. list_any (equal q) t.keys) s.keys
      (All-weaker (λ q. list_any (equal q) s.keys ≡ true) (λ q. list_any (equal q) t.keys
      ≡ true) (λ q h. sym (same q) ∙ h) s.keys (All-is_member laws s.keys)))
      (list_all-from_AllPass (λ q. list_any (equal q) s.keys) t.keys
      (All-weaker (λ q. list_any (equal q) t.keys ≡ true) (λ q. list_any (equal q) s.keys
      ≡ true) (λ q h. same q ∙ h) t.keys (All-is_member laws t.keys)))
