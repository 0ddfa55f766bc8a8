-- Lookups in a map that represents a list, in terms of the list.
use Rattle.std.proofs.Common.{◌≡◌, ℕ, suc, ◌+◌, ◌<◌, sym, ◌∙◌, arith, Bool, List, [], ◌∷◌, length, slice_get, slice_index, Option, Some, subst, refl}
use Rattle.std.proofs.lemmas.Grind.{common_steps}
use Rattle.std.specs.Int.{Width}
use Rattle.std.specs.List.{find}
use Rattle.std.specs.Option.{is_some, option_map}
use Rattle.std.specs.Prelude.{IfSome}
use Rattle.std.proofs.lemmas.Bool.{cases_Bool, true≢false}
use Rattle.std.proofs.lemmas.List.{length-map}
use Rattle.std.proofs.lemmas.Option.{same_Some, slice_get_within}
use Rattle.rkyv_base.specs.{ElementSpec, IsElement, PairRepresents, ValidAt, Viewable, entry_spec, value_offset}
use Rattle.rkyv_base.specs.declared.view.View.{View}
use Rattle.rkyv_keys.specs.Lemmas.OfEntries.{valid_key}
use Rattle.rkyv_table.specs.{home_positions, item_at}
use Rattle.rkyv_keys.specs.{IsFoundAt, IsFoundPair, IsFoundValue, first_pair}
use Rattle.rkyv_collections.specs.{AgreesOnKeys, IsPairAt, IsPosOfPair, IsValueAt, IsViewAt, MapRepresents, map_spec}
use Rattle.rkyv_collections.proofs.WrittenPairs.{pair_valid, pos_of_pair}

module _ {A B : Type 0} (k v : ElementSpec) (key : List ℕ → ℕ → A → Type 0) (value : List ℕ → ℕ → B → Type 0) (b : List ℕ) where
  -- if two lists correspond, their first accepted items correspond
  found_together : (fits : ℕ → Bool) (accept_value : A → Bool) (xs : List ℕ) (ys : List (A × B)) → length xs ≡ length ys
      → ((i : ℕ) (y : A × B) → slice_get ys i ≡ Some y → (fits (slice_index xs i) ≡ accept_value y.0) × PairRepresents k v key value b (slice_index xs i) y)
      → IsPosOfPair k v key value b (find fits xs) (first_pair accept_value ys)
  found_together fits accept_value [] [] n h = tt
  found_together fits accept_value [] (y ∷ ys) n h = absurd (omega (arith, n))
  found_together fits accept_value (x ∷ xs) [] n h = absurd (omega (arith, n))
  found_together fits accept_value (x ∷ xs) (y ∷ ys) n h =
      let here = h 0 y refl in
      let rest = found_together fits accept_value xs ys (omega (arith, n)) (λ i z e. h (suc i) z e) in
      grind (arith, common_steps, cases_Bool)

  -- the views of the found value and of the found pair
  pub value_listed : {V : Type 0} (key_pos : Option ℕ) (o : Option (A × B)) (result : Option (View V)) → IfSome result (λ x. x.archive.now ≡ b)
      → IsPosOfPair k v key value b key_pos o → IsValueAt k v result key_pos → IsFoundValue value result (option_map (λ pair. pair.1) o)
  value_listed found o result same t e = grind (arith, common_steps, same_Some)

  pub key_listed : {K : Type 0} (key_pos : Option ℕ) (o : Option (A × B)) (result : Option (View K)) → IfSome result (λ x. x.archive.now ≡ b)
      → IsPosOfPair k v key value b key_pos o → IsViewAt result key_pos → IsFoundValue key result (option_map (λ pair. pair.0) o)
  key_listed found o result same t e = grind (arith, common_steps, same_Some)

  pub pair_listed : {K V : Type 0} (key_pos : Option ℕ) (o : Option (A × B)) (result : Option (View K × View V))
      → IfSome result (λ x. (x.0.archive.now ≡ b) × (x.1.archive.now ≡ b) × (x.1.pos ≡ x.0.pos + value_offset k v))
      → IsPosOfPair k v key value b key_pos o → IsPairAt result key_pos → IsFoundPair key value result o
  pair_listed found o result same t e = grind (arith, common_steps, same_Some)

  pub contains_listed : (key_pos : Option ℕ) (o : Option (A × B)) (result : Bool) → IsPosOfPair k v key value b key_pos o → IsFoundAt result key_pos → result ≡ is_some o
  contains_listed found o result t e = grind (arith, common_steps, true≢false)

-- the first accepted key is the key of the first accepted pair
pub first_listed : (w : Width) (k v : ElementSpec) (kl : IsElement k) (vl : IsElement v) {A B : Type 0} (key : List ℕ → ℕ → A → Type 0) (value : List ℕ → ℕ → B → Type 0) (hash : List ℕ → ℕ → ℕ)
    (factor : ℕ × ℕ) (b : List ℕ) (p : ℕ) (pairs : List (A × B)) → Viewable (map_spec w k v) b p → (accept : ℕ → Bool) (accept_value : A → Bool) → AgreesOnKeys k key b accept accept_value
    → (h : MapRepresents w k v key value hash factor b p pairs)
    → IsPosOfPair k v key value b (find accept (home_positions w (entry_spec k v).size b p h.homes)) (first_pair accept_value pairs)
first_listed w k v kl vl key value hash factor b p pairs view accept accept_value agrees h =
    let positions = home_positions w (entry_spec k v).size b p h.homes in
    let n = length-map positions (hash b) in
    let m = length-map h.homes (item_at w (entry_spec k v).size b p) in
    let count : length positions ≡ length pairs = sym n ∙ sym h.written.count ∙ h.len in
    found_together k v key value b accept accept_value positions pairs count
    (λ i pair get.
    let inside = slice_get_within pairs i pair get in
    let below : i < length h.homes = omega (arith, inside, count, m) in
    let there = h.at i pair get in
    let at = subst (λ q. ValidAt (entry_spec k v) b q) (sym (pos_of_pair w k v kl vl hash b p h.homes view h.written i below)) (pair_valid w k v kl vl hash b p h.homes view h.written i below) in
    (agrees pair.0 (slice_index positions i) (valid_key kl vl b (slice_index positions i) at) there.0, there))
