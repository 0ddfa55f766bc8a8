-- A walk over a map that represents a list returns each item of the list once.
use Rattle.std.proofs.Common.{◌≡◌, ◌∙◌, ℕ, zero, suc, ◌<◌, List, [], ◌∷◌, false, Some, ap, arith, eqb, get_or, length, refl, remove, slice_get, slice_index, slice_set, subst, swap, sym, IsPermutation}
use Rattle.std.proofs.lemmas.Grind.{common_steps}
use Rattle.std.specs.Int.{Width}
use Rattle.std.specs.List.{AllZip, Contains, IsDistinct}
use Rattle.std.proofs.lemmas.Bool.{eq-eqb, true≢false}
use Rattle.std.proofs.lemmas.List.{length-map}
use Rattle.std.proofs.lemmas.List.Sorted.{Contains-permutation, IsPermutation-cons, IsPermutation-keeps, IsPermutation-map, IsPermutation-refl, IsPermutation-remove, IsPermutation-swap, IsPermutation-sym, IsPermutation-trans, length_permutation}
use Rattle.std.proofs.lemmas.Map.Keys.{IsDistinct-tail, apart_from_distinct}
use Rattle.std.proofs.lemmas.Option.{slice_get-map, slice_get_within}
use Rattle.std.specs.Option.{option_map}
use Rattle.rkyv_base.specs.{ElementSpec, PairRepresents, entry_spec, unit_represents, unit_spec}
use Rattle.rkyv_table.specs.{cap_at, home_positions, item_at, table_controls, walk, with_units}
use Rattle.rkyv_table.proofs.WrittenTables.{home_pos}
use Rattle.rkyv_collections.specs.{HasEachOnce, MapRepresents, SetWalksVisitEach, WalksVisitEach, WalksVisitPairs, key_positions_at}
use Rattle.rkyv_collections.specs.Lemmas.PairHomes.{homes_count, homes_visited}

-- ---- distinct numbers, and a list of the same length that has each of them

-- a number of a list that isn't its first is behind it
behind : (x z : ℕ) (xs : List ℕ) → (x ≡ z → ⊥) → Contains (x ∷ xs) z → Contains xs z
behind x z xs other n = grind (arith, common_steps)

pub permuted : (xs ys : List ℕ) → IsDistinct eqb xs → length ys ≡ length xs → ((x : ℕ) → Contains xs x → Contains ys x) → IsPermutation xs ys
permuted [] [] distinct long within = IsPermutation-refl []
permuted [] (y ∷ ys) distinct long within = absurd (omega (arith, long))
permuted (x ∷ xs) ys distinct long within =
    let at = within x (0, omega arith, refl) in
    let rest = remove ys at.0 in
    let moved : IsPermutation ys (x ∷ rest) = IsPermutation-remove ys at.0 x at.1 (sym at.2) in
    let count = length_permutation ys (x ∷ rest) moved in
    let other : (z : ℕ) → Contains xs z → x ≡ z → ⊥ = λ z c e.
    let apart : eqb x (get_or xs c.0 z) ≡ false = apart_from_distinct eqb (x ∷ xs) 0 (suc c.0) z distinct (omega arith) (omega (arith, c.1)) in
    true≢false (sym (eq-eqb x z e) ∙ ap (eqb x) (sym c.2) ∙ apart) in
    IsPermutation-trans (x ∷ xs) (x ∷ rest) ys
    (IsPermutation-cons x xs rest (permuted xs rest (IsDistinct-tail eqb x xs distinct) (omega (arith, count, long))
    (λ z c. behind x z rest (other z c) (Contains-permutation ys (x ∷ rest) z moved (within z (suc c.0, omega (arith, c.1), c.2))))))
    (IsPermutation-sym ys (x ∷ rest) moved)

-- ---- two lists, position by position

module _ {X : Type 0} (R : ℕ → X → Type 0) where
  zip_from : (positions : List ℕ) (xs : List X) → length positions ≡ length xs → ((n : ℕ) (x : X) → slice_get xs n ≡ Some x → R (slice_index positions n) x) → AllZip R positions xs
  zip_from [] [] long each = tt
  zip_from [] (x ∷ xs) long each = absurd (omega (arith, long))
  zip_from (q ∷ positions) [] long each = absurd (omega (arith, long))
  zip_from (q ∷ positions) (x ∷ xs) long each = (each 0 x refl, zip_from positions xs (omega (arith, long)) (λ n. each (suc n)))

  zip_at : (positions : List ℕ) (xs : List X) (i d : ℕ) (e : X) → AllZip R positions xs → i < length positions → R (get_or positions i d) (get_or xs i e)
  zip_at [] xs i d e h below = absurd (omega (arith, below))
  zip_at (q ∷ positions) [] i d e h below = absurd h
  zip_at (q ∷ positions) (x ∷ xs) zero d e h below = h.0
  zip_at (q ∷ positions) (x ∷ xs) (suc i) d e h below = zip_at positions xs i d e h.1 (omega (arith, below))

  zip_set : (positions : List ℕ) (xs : List X) (i q : ℕ) (x : X) → AllZip R positions xs → R q x → AllZip R (slice_set positions i q) (slice_set xs i x)
  zip_set [] [] i q x h r = tt
  zip_set [] (y ∷ xs) i q x h r = absurd h
  zip_set (p ∷ positions) [] i q x h r = absurd h
  zip_set (p ∷ positions) (y ∷ xs) zero q x h r = (r, h.1)
  zip_set (p ∷ positions) (y ∷ xs) (suc i) q x h r = (h.0, zip_set positions xs i q x h.1 r)

  zip_length : (positions : List ℕ) (xs : List X) → AllZip R positions xs → length xs ≡ length positions
  zip_length [] [] h = refl
  zip_length [] (x ∷ xs) h = absurd h
  zip_length (q ∷ positions) [] h = absurd h
  zip_length (q ∷ positions) (x ∷ xs) h = ap suc (zip_length positions xs h.1)

  zip_swap : (positions : List ℕ) (xs : List X) (i j : ℕ) → i < length positions → j < length positions → AllZip R positions xs → AllZip R (swap positions i j) (swap xs i j)
  zip_swap [] xs i j hi hj h = absurd (omega (arith, hi))
  zip_swap (q ∷ positions) [] i j hi hj h = absurd h
  zip_swap (q ∷ positions) (x ∷ xs) i j hi hj h = grind (arith, common_steps, zip_set, zip_at)

  -- the items at some positions are at the same positions in another order
  pub permuted_has_each : (positions others : List ℕ) (xs : List X) → IsPermutation positions others → AllZip R positions xs → HasEachOnce R others xs
  permuted_has_each positions others xs moved h =
      IsPermutation-keeps positions (λ qs. HasEachOnce R qs xs) (record { reordered = xs; each = IsPermutation-refl xs; related = h })
      (λ qs i j hi hj so_far.
      let ys = so_far.reordered in
      let long = zip_length qs ys so_far.related in
      record {
        reordered = swap ys i j;
        each = IsPermutation-trans xs ys (swap ys i j) so_far.each (IsPermutation-swap ys (swap ys i j) i j (omega (arith, hi, long)) (omega (arith, hj, long)) refl);
        related = zip_swap qs ys i j hi hj so_far.related;
      })
      others moved

-- ---- the walk

module _ {A B : Type 0} (w : Width) (k v : ElementSpec) (key : List ℕ → ℕ → A → Type 0) (value : List ℕ → ℕ → B → Type 0) (key_hash : List ℕ → ℕ → ℕ) where
  module _ (factor : ℕ × ℕ) (b : List ℕ) (p : ℕ) (pairs : List (A × B)) (represents : MapRepresents w k v key value key_hash factor b p pairs) where
    positions : List ℕ
    positions = home_positions w (entry_spec k v).size b p represents.homes

    -- the positions of the walk are the home buckets' positions, in another order
    walk_moved : IsPermutation positions (key_positions_at w k v b p)
    unfolding positions
    walk_moved =
        let visits = homes_visited represents in
        let walked = walk (table_controls w b p) (cap_at w b p) in
        IsPermutation-map (item_at w (entry_spec k v).size b p) represents.homes walked
        (permuted represents.homes walked visits.once visits.count (λ bucket. (visits.members bucket).1))

    -- if the items of `xs` are at the positions of the pairs, the positions of the walk
    -- have each of them once
    pub walk_has_each : {X : Type 0} (R : ℕ → X → Type 0) (xs : List X) → length xs ≡ length pairs → ((n : ℕ) (x : X) → slice_get xs n ≡ Some x → R (slice_index (home_positions w (entry_spec k v).size b p represents.homes) n) x)
        → HasEachOnce R (key_positions_at w k v b p) xs
    unfolding positions
    walk_has_each R xs long each =
        let count : length positions ≡ length xs = length-map represents.homes (item_at w (entry_spec k v).size b p) ∙ homes_count represents ∙ sym long in
        permuted_has_each R positions (key_positions_at w k v b p) xs walk_moved (zip_from R positions xs count each)

    pair_at_home : (n : ℕ) (pair : A × B) → slice_get pairs n ≡ Some pair → PairRepresents k v key value b (item_at w (entry_spec k v).size b p (slice_index represents.homes n)) pair
    pair_at_home n pair at =
        let below : n < length represents.homes = omega (arith, slice_get_within pairs n pair at, homes_count represents) in
        subst (λ q. PairRepresents k v key value b q pair) (home_pos w (entry_spec k v).size b p represents.homes n below) (represents.at n pair at)

  pub walks_visit_pairs : WalksVisitPairs w k v key value key_hash
  walks_visit_pairs factor b p pairs represents = (homes_visited represents, pair_at_home factor b p pairs represents)

  pub walks_visit_each : WalksVisitEach w k v key value key_hash
  walks_visit_each factor b p pairs represents = walk_has_each factor b p pairs represents (PairRepresents k v key value b) pairs refl represents.at

pub set_walks_visit_each : {A : Type 0} (w : Width) (k : ElementSpec) (key : List ℕ → ℕ → A → Type 0) (key_hash : List ℕ → ℕ → ℕ) → SetWalksVisitEach w k key key_hash
set_walks_visit_each {A} w k key key_hash factor b p keys represents =
    let unit_behind : A → A × Unit {0} = λ x. (x, tt) in
    walk_has_each w k unit_spec key unit_represents key_hash factor b p (with_units keys) represents (key b) keys (sym (length-map keys unit_behind))
    (λ n x at. (represents.at n (x, tt) (slice_get-map unit_behind keys n ∙ ap (option_map unit_behind) at)).0)
