-- A lookup in a written table finds the first accepted item of the list.
use Rattle.std.proofs.Common.{◌≡◌, ℕ, suc, ◌∙◌, inl, inr, refl, sym, ap, arith, Bool, true, false, List, [], ◌∷◌, length, slice_get, slice_index, Option, Some}
use Rattle.std.proofs.lemmas.Grind.{common_steps}
use Rattle.std.specs.Int.{Width}
use Rattle.std.specs.List.{find, position}
use Rattle.std.specs.Option.{option_map}
use Rattle.std.proofs.lemmas.Bool.{cases_Bool}
use Rattle.std.proofs.lemmas.List.{get_or-map, length-map}
use Rattle.std.proofs.lemmas.Option.{slice_get-map, slice_get_cases}
use Rattle.rkyv_base.specs.{ElementSpec}
use Rattle.rkyv_table.specs.{AgreesAt, AreUnder, IsFirstOf, IsUnderHash, IsWrittenOf, LookupFindsFirst, first_pos, hashes_of, home_positions, items_of}
use Rattle.rkyv_table.proofs.FirstFound.{first_found}
use Rattle.rkyv_table.specs.Lemmas.Homes.{home_count}

-- the first accepted position is the position of the first accepted item
first_along : {X : Type 0} (represents : List ℕ → ℕ → X → Type 0) (c : List ℕ) (accept : X → Bool) (accept_at : ℕ → Bool) (items : List X) (qs : List ℕ)
    → length items ≡ length qs → ((i : ℕ) (x : X) → slice_get items i ≡ Some x → represents c (slice_index qs i) x) → AgreesAt qs items accept accept_at → IsFirstOf represents c accept items (find accept_at qs)
first_along represents c accept accept_at [] [] n there agrees = refl
first_along represents c accept accept_at [] (q ∷ qs) n there agrees = absurd (omega arith)
first_along represents c accept accept_at (x ∷ xs) [] n there agrees = absurd (omega arith)
first_along represents c accept accept_at (x ∷ xs) (q ∷ qs) k there agrees =
    let same : accept_at q ≡ accept x = agrees 0 x refl in
    elim (cases_Bool (accept_at q)) [
      | inl y ↦ rw (y, sym same ∙ y) (x, refl, there 0 x refl)
      | inr n ↦ rw (n, sym same ∙ n) (first_along represents c accept accept_at xs qs (omega (arith, k)) (λ i y e. there (suc i) y e) (λ i y e. agrees (suc i) y e))
    ]

-- the index of the first accepted element, if that is the first element
position_front : {X : Type 0} (accept : X → Bool) (x : X) (xs : List X) → accept x ≡ true → position accept (x ∷ xs) ≡ Some 0
position_front accept x xs accepted = grind (arith, accepted)

-- the index of the first accepted element, if the first one is not accepted
position_behind : {X : Type 0} (accept : X → Bool) (x : X) (xs : List X) → accept x ≡ false → position accept (x ∷ xs) ≡ option_map (λ i. suc i) (position accept xs)
position_behind accept x xs other = grind (arith, common_steps)

-- a position that is read from behind the first one
read_behind : (q : ℕ) (qs : List ℕ) (r : Option ℕ) → option_map (slice_index (q ∷ qs)) (option_map (λ i. suc i) r) ≡ option_map (slice_index qs) r
read_behind q qs found = grind (arith, common_steps)

-- the first accepted position is that at the index of the first accepted item
pos_along : {X : Type 0} (accept : X → Bool) (accept_at : ℕ → Bool) (items : List X) (qs : List ℕ) → length items ≡ length qs → AgreesAt qs items accept accept_at
    → find accept_at qs ≡ first_pos qs accept items
pos_along accept accept_at [] [] n agrees = refl
pos_along accept accept_at [] (q ∷ qs) n agrees = absurd (omega arith)
pos_along accept accept_at (x ∷ xs) [] n agrees = absurd (omega arith)
pos_along accept accept_at (x ∷ xs) (q ∷ qs) k agrees =
    let same : accept_at q ≡ accept x = agrees 0 x refl in
    elim (cases_Bool (accept_at q)) [
      | inl y ↦ rw y (sym (ap (option_map (slice_index (q ∷ qs))) (position_front accept x xs (sym same ∙ y))))
      | inr n ↦
          rw n (pos_along accept accept_at xs qs (omega (arith, k)) (λ i y e. agrees (suc i) y e))
          ∙ sym (ap (option_map (slice_index (q ∷ qs))) (position_behind accept x xs (sym same ∙ n)) ∙ read_behind q qs (position accept xs))
    ]

-- the home buckets of written pairs, and their first accepted one
module _ {X : Type 0} (w : Width) (size : ℕ) (represents : List ℕ → ℕ → X → Type 0) (c : List ℕ) (p : ℕ) (pairs : List (ℕ × X)) (written : IsWrittenOf w size represents c p pairs) (hash : ℕ)
    (accept : X → Bool) (accept_at : ℕ → Bool) (agrees : AgreesAt (home_positions w size c p written.homes) (items_of pairs) accept accept_at) where
  abbrev positions : List ℕ
  positions = home_positions w size c p written.homes

  hashes_count : length (hashes_of pairs) ≡ length pairs
  hashes_count = length-map pairs (λ (y : ℕ × X). y.0)

  positions_count : length (items_of pairs) ≡ length positions
  positions_count = length-map pairs (λ (y : ℕ × X). y.1) ∙ sym hashes_count ∙ sym (home_count w c p (hashes_of pairs) written.homes written.written) ∙ sym (length-map written.homes _)

  -- only positions of items under the hash are accepted
  pub accepted_under : AreUnder hash accept pairs → IsUnderHash hash (hashes_of pairs) positions accept_at
  accepted_under under i below t = grind (arith, common_steps, slice_get_cases pairs i, slice_get-map, get_or-map, hashes_count)

  -- the first accepted one of the positions
  pub first_at_home : IsFirstOf represents c accept (items_of pairs) (find accept_at positions)
  first_at_home = first_along represents c accept accept_at (items_of pairs) positions positions_count written.at agrees

  -- its position
  pub first_home_pos : find accept_at positions ≡ first_pos positions accept (items_of pairs)
  first_home_pos = pos_along accept accept_at (items_of pairs) positions positions_count agrees

-- a lookup in a written table finds the first accepted item of the list, at its position
pub lookup_finds_first : {X : Type 0} (w : Width) (s : ElementSpec) (represents : List ℕ → ℕ → X → Type 0) → LookupFindsFirst w s represents
lookup_finds_first w s represents kind c p hash pairs accept accept_at law fits written under at =
    grind (
      arith,
      common_steps,
      first_found kind law w s.size c p hash fits (hashes_of pairs) written.homes accept_at written.written (accepted_under w s.size represents c p pairs written hash accept accept_at at under),
      accepted_under w s.size represents c p pairs written hash accept accept_at at under,
      first_at_home w s.size represents c p pairs written hash accept accept_at at,
      first_home_pos w s.size represents c p pairs written hash accept accept_at at,
    )
