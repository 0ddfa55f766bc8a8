-- Writes of the value of the first pair of a list with an accepted key.
use Rattle.std.proofs.lemmas.Grind.{common_steps}
use Rattle.std.proofs.Common.{◌≡◌, ℕ, suc, zero, ◌∙◌, ap, arith, Bool, false, List, [], ◌∷◌, None, Option, Some, refl, subst, sym, true}
use Rattle.std.specs.Int.{Width}
use Rattle.std.specs.List.{find, range_with_len, slice_get}
use Rattle.std.specs.Option.{is_some}
use Rattle.std.specs.Prelude.{MatchOption, slice_set}
use Rattle.std.proofs.lemmas.Option.{same_Some}
use Rattle.rkyv_base.specs.{ElementSpec, IsArchiveWord, IsElement, Viewable, entry_spec}
use Rattle.rkyv_keys.specs.{first_pair, with_first_changed}
use Rattle.rkyv_keys.specs.Lemmas.OfEntries.{valid_key}
use Rattle.rkyv_table.specs.{len_at}
use Rattle.rkyv_index.specs.{AgreesOnKeys, IndexRepresents, IsFirst, fits_in, index_spec, indices_of, pair_at}
use Rattle.rkyv_index.specs.Lemmas.IndexLaws.{listed_below}
use Rattle.rkyv_index.proofs.FirstListed.{first_listed}
use Rattle.rkyv_index.proofs.SameIndex.{entry_there}

module _ {A B : Type 0} (accept : A → Bool) (change : B → B) where
  -- the pair at index `n` is the first accepted one, and the changed list differs from the list there
  abbrev IsChangedAt : List (A × B) → ℕ → Type 0
  IsChangedAt pairs n =
      (pair : A × B) × (slice_get pairs n ≡ Some pair) × (first_pair accept pairs ≡ Some pair) × (with_first_changed accept change pairs ≡ slice_set pairs n (pair.0, change pair.1))

  -- no pair is accepted, and the changed list is the list
  abbrev IsUnchanged : List (A × B) → Type 0
  IsUnchanged pairs = (first_pair accept pairs ≡ None) × (with_first_changed accept change pairs ≡ pairs)

  changed_at : (pairs : List (A × B)) (found : Option ℕ) → IsFirst accept pairs found → MatchOption found (IsUnchanged pairs) (IsChangedAt pairs)
  changed_at [] None h = (refl, refl)
  changed_at [] (Some n) h = absurd (let e = h.0.1 in cc)
  changed_at (x ∷ xs) None h =
      let f : accept x.0 ≡ false = h 0 x refl in
      let rest = changed_at xs None (λ i pair e. h (suc i) pair e) in
      (rw f rest.0, rw f (ap (λ (l : List (A × B)). x ∷ l) rest.1))
  changed_at (x ∷ xs) (Some zero) h =
      let t : accept x.0 ≡ true = subst (λ (y : A × B). accept y.0 ≡ true) (sym (same_Some x h.0.0 h.0.1)) h.0.2 in
      (x, refl, rw t refl, rw t refl)
  changed_at (x ∷ xs) (Some (suc n)) h =
      let f : accept x.0 ≡ false = h.1 0 x (omega arith) refl in
      let rest = changed_at xs (Some n) (h.0, λ i pair less e. h.1 (suc i) pair (omega (arith, less)) e) in
      (rest.0, rest.1, rw f rest.2, rw f (ap (λ (l : List (A × B)). x ∷ l) rest.3))

module _ (w : Width) (kind : IsArchiveWord w) (k v : ElementSpec) (kl : IsElement k) (vl : IsElement v) (b : List ℕ) (p : ℕ) (view : Viewable (index_spec w (entry_spec k v)) b p) {A B : Type 0}
    (key : List ℕ → ℕ → A → Type 0) (value : List ℕ → ℕ → B → Type 0) (key_hash : List ℕ → ℕ → ℕ) (factor : ℕ × ℕ) (pairs : List (A × B)) (fits : List ℕ → ℕ → Bool) (accept : A → Bool)
    (agrees : AgreesOnKeys k key b fits accept) (st : IndexRepresents w k v key value key_hash factor b p pairs) (change : B → B) where
  -- the first index whose key fits
  abbrev first_fitting : Option ℕ
  first_fitting = find (fits_in w k v b p fits) (indices_of (len_at w b p))

  -- it is the index of the first pair with an accepted key
  is_first : (found : Option ℕ) → found ≡ first_fitting → IsFirst accept pairs found
  is_first found is = first_listed (fits_in w k v b p fits) accept pairs (λ i pair e.
      let below = listed_below pairs (len_at w b p) i pair st.len e in
      agrees pair.0 (pair_at w k v b p i) (valid_key kl vl b (pair_at w k v b p i) (entry_there w kind k v kl vl b p view i below).valid) (st.at i pair e).0)
      found (ap (λ (n : ℕ). find (fits_in w k v b p fits) (range_with_len 0 n)) (sym st.len) ∙ sym is)

  -- if no key fits, the list has no accepted pair, and the index map represents the changed list
  pub none_listed : None ≡ first_fitting → (false ≡ is_some (first_pair accept pairs)) × IndexRepresents w k v key value key_hash factor b p (with_first_changed accept change pairs)
  none_listed is = grind (arith, common_steps, changed_at accept change pairs None (is_first None is), is_first None is)

  -- a property of the list with the changed value at the found index is one of the changed list
  pub some_listed : (i : ℕ) → Some i ≡ first_fitting → (P : List (A × B) → Type 0) → ((pair : A × B) → slice_get pairs i ≡ Some pair → P (slice_set pairs i (pair.0, change pair.1)))
      → (true ≡ is_some (first_pair accept pairs)) × P (with_first_changed accept change pairs)
  some_listed i is P at_index = grind (arith, common_steps, changed_at accept change pairs (Some i) (is_first (Some i) is), is_first (Some i) is)
