-- Writes that change the value of the first pair of a list with an accepted key.
use Rattle.std.proofs.Common.{◌≡◌, ℕ, suc, ◌<◌, ◌∙◌, ap, arith, inl, inr, ◌⊎◌, Bool, true, false, List, [], ◌∷◌, length, slice_get, slice_index, Option, None, Some, refl, subst, sym}
use Rattle.std.proofs.lemmas.Grind.{common_steps}
use Rattle.std.specs.Int.{Width}
use Rattle.std.specs.List.{find}
use Rattle.std.specs.Option.{is_some, option_map}
use Rattle.std.specs.Prelude.{slice_set}
use Rattle.std.proofs.lemmas.Bool.{cases_Bool}
use Rattle.std.proofs.lemmas.List.{length-map}
use Rattle.std.proofs.lemmas.Option.{same_Some, slice_get_within}
use Rattle.rkyv_base.specs.{ElementSpec, IsElement, ModifiesOnly, RepresentsLocally, StaysValid, ValidAt, Viewable, entry_spec, value_pos}
use Rattle.rkyv_keys.specs.Lemmas.OfEntries.{valid_key}
use Rattle.rkyv_table.specs.{WritesValue, home_positions, item_at}
use Rattle.rkyv_collections.specs.{AgreesOnKeys, MapRepresents, map_spec}
use Rattle.rkyv_keys.specs.{HashLocal, first_pair, with_first_changed}
use Rattle.rkyv_collections.proofs.ValueWrites.{written_value_represents}
use Rattle.rkyv_collections.proofs.WrittenPairs.{pair_valid, pos_of_pair}

module _ {A B : Type 0} (accept_value : A → Bool) (change : B → B) where
  -- the found position is the position of the pair `n`, the first accepted one of both lists
  pub record IsNth (xs : List ℕ) (ys : List (A × B)) (found : Option ℕ) : Type 0 where
    pub n : ℕ
    pub pair : A × B
    pub below : n < length xs
    pub pos : found ≡ Some (slice_index xs n)
    pub at : slice_get ys n ≡ Some pair
    pub first : first_pair accept_value ys ≡ Some pair
    pub written : with_first_changed accept_value change ys ≡ slice_set ys n (pair.0, change pair.1)

  abbrev pub IsNone : List (A × B) → Option ℕ → Type 0
  IsNone ys found = (found ≡ None) × (first_pair accept_value ys ≡ None) × (with_first_changed accept_value change ys ≡ ys)

  pub nth_found : (accept : ℕ → Bool) (xs : List ℕ) (ys : List (A × B)) → length xs ≡ length ys
      → ((i : ℕ) (y : A × B) → slice_get ys i ≡ Some y → accept (slice_index xs i) ≡ accept_value y.0)
      → IsNone ys (find accept xs) ⊎ IsNth xs ys (find accept xs)
  nth_found accept [] [] n h = inl (refl, refl, refl)
  nth_found accept [] (y ∷ ys) n h = absurd (omega (arith, n))
  nth_found accept (x ∷ xs) [] n h = absurd (omega (arith, n))
  nth_found accept (x ∷ xs) (y ∷ ys) n h =
      let here : accept x ≡ accept_value y.0 = h 0 y refl in
      elim (cases_Bool (accept_value y.0)) [
        | inl t ↦ inr (record {
          n = 0;
          pair = y;
          below = omega arith;
          pos = rw (here, t) refl;
          at = refl;
          first = rw t refl;
          written = rw t refl;
        })
        | inr f ↦ elim (nth_found accept xs ys (omega (arith, n)) (λ i z e. h (suc i) z e)) [
          | inl none ↦ inl (rw (here, f) none.0, rw f none.1, rw f (ap (λ (l : List (A × B)). y ∷ l) none.2))
          | inr r ↦
              let less = r.below in
              inr (record {
                n = suc r.n;
                pair = r.pair;
                below = omega (arith, less);
                pos = rw (here, f) r.pos;
                at = r.at;
                first = rw f r.first;
                written = rw f (ap (λ (l : List (A × B)). y ∷ l) r.written);
              })
        ]
      ]

pub some_pos : (f : ℕ → ℕ) (o : Option ℕ) (pos : ℕ) → Some pos ≡ option_map f o → (q : ℕ) × (Some q ≡ o) × (pos ≡ f q)
some_pos f found pos e = grind (arith, common_steps, same_Some)

no_pos : (f : ℕ → ℕ) (o : Option ℕ) → None ≡ option_map f o → None ≡ o
no_pos f found e = grind (arith, common_steps)

module _ (w : Width) (k v : ElementSpec) (kl : IsElement k) (vl : IsElement v) {A B : Type 0} (key : List ℕ → ℕ → A → Type 0) (value : List ℕ → ℕ → B → Type 0)
    (key_hash : List ℕ → ℕ → ℕ) (factor : ℕ × ℕ) (b : List ℕ) (p : ℕ) (pairs : List (A × B)) (change : B → B) (accept : ℕ → Bool) (accept_value : A → Bool)
    (view : Viewable (map_spec w k v) b p) (agrees : AgreesOnKeys k key b accept accept_value) (st : MapRepresents w k v key value key_hash factor b p pairs) where
  abbrev positions : List ℕ
  positions = home_positions w (entry_spec k v).size b p st.homes

  positions_count : length positions ≡ length st.homes
  positions_count = length-map st.homes (item_at w (entry_spec k v).size b p)

  pub count : length positions ≡ length pairs
  count = sym (length-map positions (key_hash b)) ∙ sym st.written.count ∙ st.len

  pub each_alike : (i : ℕ) (y : A × B) → slice_get pairs i ≡ Some y → accept (slice_index positions i) ≡ accept_value y.0
  each_alike i y get =
      let inside = slice_get_within pairs i y get in
      let below : i < length st.homes = omega (arith, inside, count, positions_count) in
      let at = sym (pos_of_pair w k v kl vl key_hash b p st.homes view st.written i below) in
      let entry = subst (λ z. ValidAt (entry_spec k v) b z) at (pair_valid w k v kl vl key_hash b p st.homes view st.written i below) in
      agrees y.0 (slice_index positions i) (valid_key kl vl b (slice_index positions i) entry) (st.at i y get).0

  -- if no key is accepted, the list has no accepted pair and is unchanged
  pub none_written : None ≡ find accept positions → (false ≡ is_some (first_pair accept_value pairs)) × MapRepresents w k v key value key_hash factor b p (with_first_changed accept_value change pairs)
  none_written found = elim (nth_found accept_value change accept positions pairs count each_alike) [
    | inl none ↦ (ap is_some (sym none.1), subst (λ (l : List (A × B)). MapRepresents w k v key value key_hash factor b p l) (sym none.2) st)
    | inr r ↦ absurd (let e = found ∙ r.pos in cc)
  ]

  -- after a change of the first accepted value, the map represents the list with the changed value
  pub first_written : (kn : RepresentsLocally k key) (vn : RepresentsLocally v value) → HashLocal k key_hash → (c : List ℕ) (q : ℕ) → Some q ≡ find accept positions
      → WritesValue k v b c q → ((x : B) → value b (value_pos k v q) x → value c (value_pos k v q) (change x))
      → (true ≡ is_some (first_pair accept_value pairs)) × MapRepresents w k v key value key_hash factor c p (with_first_changed accept_value change pairs)
  first_written kn vn local c q found writes represents = elim (nth_found accept_value change accept positions pairs count each_alike) [
    | inl none ↦ absurd (let e = found ∙ none.0 in cc)
    | inr r ↦
        let at : q ≡ slice_index positions r.n = same_Some q (slice_index positions r.n) (found ∙ r.pos) in
        let there = written_value_represents k v kl vl w key_hash local key value kn vn b c p r.n factor pairs r.pair (change r.pair.1) view st r.at
        (subst (WritesValue k v b c) at writes) (subst (λ z. (x : B) → value b (value_pos k v z) x → value c (value_pos k v z) (change x)) at represents r.pair.1 (st.at r.n r.pair r.at).1) in
        (ap is_some (sym r.first), subst (λ (l : List (A × B)). MapRepresents w k v key value key_hash factor c p l) (sym r.written) there)
  ]

  -- the same for the position of the value
  pub none_behind : None ≡ option_map (value_pos k v) (find accept positions)
      → (false ≡ is_some (first_pair accept_value pairs)) × MapRepresents w k v key value key_hash factor b p (with_first_changed accept_value change pairs)
  none_behind found = none_written (no_pos (value_pos k v) (find accept positions) found)

  pub first_behind : (kn : RepresentsLocally k key) (vn : RepresentsLocally v value) → HashLocal k key_hash → (c : List ℕ) (pos : ℕ)
      → Some pos ≡ option_map (value_pos k v) (find accept positions) → ModifiesOnly b pos v.size c → StaysValid v b c pos → ((x : B) → value b pos x → value c pos (change x))
      → (true ≡ is_some (first_pair accept_value pairs)) × MapRepresents w k v key value key_hash factor c p (with_first_changed accept_value change pairs)
  first_behind kn vn local c pos found sealed keeps represents =
      let t = some_pos (value_pos k v) (find accept positions) pos found in
      first_written kn vn local c t.0 t.1 (record { sealed = subst (λ n. ModifiesOnly b n v.size c) t.2 sealed; keeps = subst (λ n. StaysValid v b c n) t.2 keeps })
      (subst (λ n. (x : B) → value b n x → value c n (change x)) t.2 represents)
