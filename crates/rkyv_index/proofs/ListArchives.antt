-- Lookups in an index map at the root of an archive that represents a list of pairs.
use Rattle.std.proofs.Common.{◌≡◌, ℕ, ◌+◌, ◌∙◌, ap, arith, inl, inr, refl, subst, suc, sym, Bool, List, [], ◌∷◌, None, Option, Some, length}
use Rattle.std.proofs.lemmas.Grind.{common_steps}
use Rattle.std.specs.Borrow.{Bor}
use Rattle.std.specs.Prelude.{MatchOption, cond}
use Rattle.std.specs.List.{find, list_any, position_from, range_with_len, slice_get}
use Rattle.std.specs.Option.{is_some, option_map}
use Rattle.std.proofs.lemmas.Bool.{cases_Bool, true≢false}
use Rattle.std.proofs.lemmas.Iterator.Adapters.{position_from-zero}
use Rattle.std.proofs.lemmas.Option.{none-some, same_Some}
use Rattle.rkyv_base.specs.{IsArchiveWord, IsAt, PairRepresents, entry_spec, unit_represents}
use Rattle.rkyv_base.specs.Lemmas.Entry.{entry_element}
use Rattle.rkyv_base.specs.declared.element.HasSpec.{Ghosts as Specs}
use Rattle.rkyv_base.specs.declared.view.View.{View}
use Rattle.rkyv_base.specs.declared.width.Word.{Ghosts as Words}
use Rattle.rkyv_keys.specs.{FindsByView, FitsItsEqual, FoundValues, IsFoundAt, IsFoundValue, NativeKeys, first_pair}
use Rattle.rkyv_keys.specs.Lemmas.OfEntries.{valid_key}
use Rattle.rkyv_table.specs.{with_units}
use Rattle.rkyv_table.proofs.Moved.{moved}
use Rattle.rkyv_index.specs.{FoundAreListed, IndexRepresents, IsValueAt, IsWritten, MembersFoundAreListed, fits_at, index_bytes, index_len, index_of, index_pos, index_root, key_pos, keys_of, pair_indices}
use Rattle.rkyv_index.specs.Lemmas.IndexLaws.{listed_below}
use Rattle.rkyv_index.specs.declared.map.ArchivedIndexMap.{ArchivedIndexMap}
use Rattle.rkyv_index.proofs.ValidIndexMap.{entry_viewable}

-- `index`: the index of the first pair with an accepted key, `first`: that pair, or there is neither
abbrev IsFirstAt : {A B : Type 0} → List (A × B) → ℕ → Option ℕ → Option (A × B) → Type 0
IsFirstAt {A} {B} pairs from index first =
    MatchOption index (first ≡ None) (λ n. (i : ℕ) × (pair : A × B) × (n ≡ from + i) × (slice_get pairs i ≡ Some pair) × (first ≡ Some pair))

module _ {A B : Type 0} (P : ℕ → Bool) (accept : A → Bool) where
  -- `P` accepts the indices of the pairs with an accepted key
  abbrev Agrees : ℕ → List (A × B) → Type 0
  Agrees from pairs = (i : ℕ) (pair : A × B) → slice_get pairs i ≡ Some pair → P (from + i) ≡ accept pair.0

  here : (from : ℕ) (x : A × B) (xs : List (A × B)) → Agrees from (x ∷ xs) → P from ≡ accept x.0
  here from x xs agrees = ap P (omega arith) ∙ agrees 0 x refl

  behind : (from : ℕ) (x : A × B) (xs : List (A × B)) → Agrees from (x ∷ xs) → Agrees (from + 1) xs
  behind from x xs agrees i pair e = ap P (omega arith) ∙ agrees (suc i) pair e

  pub index_listed : (from : ℕ) (pairs : List (A × B)) → Agrees from pairs → find P (range_with_len from (length pairs)) ≡ position_from (λ pair. accept pair.0) from pairs
  index_listed from [] agrees = refl
  index_listed from (x ∷ xs) agrees = grind (arith, common_steps, here from x xs agrees, index_listed (from + 1) xs (behind from x xs agrees), behind from x xs agrees, cases_Bool (accept x.0))

  later : (from : ℕ) (x : A × B) (xs : List (A × B)) (index : Option ℕ) (first : Option (A × B)) → IsFirstAt xs (from + 1) index first → IsFirstAt (x ∷ xs) from index first
  later from x xs None first h = h
  later from x xs (Some n) first h = (suc h.0, h.1, omega (arith, h.2), h.3, h.4)

  pub first_listed_at : (from : ℕ) (pairs : List (A × B)) → Agrees from pairs → IsFirstAt pairs from (find P (range_with_len from (length pairs))) (first_pair accept pairs)
  first_listed_at from [] agrees = refl
  first_listed_at from (x ∷ xs) agrees =
      let e = here from x xs agrees in
      let rest = first_listed_at (from + 1) xs (behind from x xs agrees) in
      elim (cases_Bool (accept x.0)) [
        | inl t ↦ rw (e, t) (0, x, omega arith, refl, refl)
        | inr f ↦ rw (e, f) (later from x xs (find P (range_with_len (from + 1) (length xs))) (first_pair accept xs) rest)
      ]

-- the value that is found at an index is the first pair's value
found_at : {A B K V H W : Type 0} {ks : Specs K} {vs : Specs V} {wt : Words W} (m : ArchivedIndexMap K V H W ks vs wt) (key : List ℕ → ℕ → A → Type 0) (value : List ℕ → ℕ → B → Type 0) (pairs : List (A × B))
    → ((i : ℕ) (pair : A × B) → slice_get pairs i ≡ Some pair → PairRepresents ks.spec vs.spec key value (index_bytes m) (key_pos m i) pair)
    → (index : Option ℕ) (found : Option (View V)) (first : Option (A × B)) → IsValueAt m found index → IsFirstAt pairs 0 index first → IsFoundValue value found (option_map (λ pair. pair.1) first)
found_at m key value pairs represents None None None at is = tt
found_at m key value pairs represents None (Some view) first at is = absurd (none-some view (sym at))
found_at m key value pairs represents None None (Some pair) at is = absurd (none-some pair (sym is))
found_at m key value pairs represents (Some n) None first at is = absurd (none-some at.0 at.1)
found_at m key value pairs represents (Some n) (Some view) None at is = absurd (none-some is.1 is.4)
found_at {ks = ks} {vs = vs} m key value pairs represents (Some n) (Some view) (Some pair) at is = grind (arith, same_Some, moved)

-- In an index map that represents a list of pairs, native keys find the first pair with an equal key
pub record FirstInMap {A Q B K V H W : Type 0} {ks : Specs K} {vs : Specs V} {wt : Words W} (m : ArchivedIndexMap K V H W ks vs wt) (keys : NativeKeys A Q) (value : List ℕ → ℕ → B → Type 0) (query : Q) (pairs : List (A × B))
    : Type 0 where
  pub homes : List ℕ
  pub written : IsWritten (index_of m) keys.key_hash homes
  pub at : (i : ℕ) (pair : A × B) → slice_get pairs i ≡ Some pair → PairRepresents ks.spec vs.spec keys.represents value (index_bytes m) (key_pos m i) pair
  pub index : find (fits_at (index_of m) (keys.fits query)) (pair_indices (index_of m)) ≡ position_from (λ pair. keys.equal query pair.0) 0 pairs
  pub first : IsFirstAt pairs 0 (find (fits_at (index_of m) (keys.fits query)) (pair_indices (index_of m))) (first_pair (keys.equal query) pairs)

first_in_map : {A Q B K V H W : Type 0} {ks : Specs K} {vs : Specs V} {wt : Words W} → IsArchiveWord wt.word → (m : ArchivedIndexMap K V H W ks vs wt) (keys : NativeKeys A Q)
    → FitsItsEqual ks.spec keys.represents keys.equal keys.fits → (value : List ℕ → ℕ → B → Type 0) (query : Q) (archive : Bor (List ℕ)) (p : ℕ) (factor : ℕ × ℕ) (pairs : List (A × B))
    → IsAt m.view archive p → IndexRepresents wt.word ks.spec vs.spec keys.represents value keys.key_hash factor archive.now p pairs → FirstInMap m keys value query pairs
first_in_map {ks = ks} {vs = vs} {wt = wt} kind m keys native value query archive p factor pairs at is =
    let represents = moved (λ b q. IndexRepresents wt.word ks.spec vs.spec keys.represents value keys.key_hash factor b q pairs) _ _ _ _ (sym (ap (λ a. a.now) at.0)) (sym at.1) is in
    let P = fits_at (index_of m) (keys.fits query) in
    let n : index_len m ≡ length pairs = represents.len in
    let agrees : (i : ℕ) (pair : _ × _) → slice_get pairs i ≡ Some pair → P (0 + i) ≡ keys.equal query pair.0 = λ i pair e.
    let below = listed_below pairs (index_len m) i pair n e in
    let there = entry_viewable wt.word kind (entry_spec ks.spec vs.spec) (entry_element ks.spec vs.spec ks.laws vs.laws) (index_bytes m) (index_pos m) m.valid i below in
    let zero : 0 + i ≡ i = omega arith in
    ap P zero ∙ native query pair.0 (index_bytes m) (key_pos m i) (valid_key ks.laws vs.laws (index_bytes m) (key_pos m i) there.valid) (represents.at i pair e).0 in
    let range = ap (λ (x : ℕ). find P (range_with_len 0 x)) n in
    record {
      homes = represents.homes;
      written = represents.written;
      at = represents.at;
      index = range ∙ index_listed P (keys.equal query) 0 pairs agrees;
      first = subst (λ index. IsFirstAt pairs 0 index (first_pair (keys.equal query) pairs)) (sym range) (first_listed_at P (keys.equal query) 0 pairs agrees);
    }

-- a lookup in the index map at the root of an archive finds the first pair of the list
pub found_listed : {A Q B K V W : Type 0} (H : Type 0) (wt : Words W) → IsArchiveWord wt.word → (ks : Specs K) (vs : Specs V) (keys : NativeKeys A Q) → FitsItsEqual ks.spec keys.represents keys.equal keys.fits
    → (values : FoundValues V B) → FindsByView values → FoundAreListed H wt ks vs keys values
found_listed H wt kind ks vs keys native values by = λ map root archive factor pairs query view at is.
    let there : IsAt map.view archive (index_root wt.word ks.spec vs.spec archive.now) = (ap (λ x. x.archive) view ∙ at.0, ap (λ x. x.pos) view ∙ at.1) in
    let r = first_in_map kind map keys native values.represents query archive _ factor pairs there is in
    record {
      index = λ found finds. finds r.homes r.written ∙ r.index ∙ sym (position_from-zero (λ pair. keys.equal query pair.0) pairs);
      value = λ found finds. by found _ (found_at map keys.represents values.represents pairs r.at _ found _ (finds r.homes r.written) r.first);
    }

-- the keys of pairs with the unit value
module _ {A : Type 0} (accept : A → Bool) where
  position_units : (from : ℕ) (items : List A) → position_from (λ pair. accept pair.0) from (with_units items) ≡ position_from accept from items
  position_units from [] = refl
  position_units from (x ∷ xs) = ap (cond (accept x) (Some from)) (position_units (from + 1) xs)

  any_position : (from : ℕ) (items : List A) → is_some (position_from accept from items) ≡ list_any accept items
  any_position from [] = refl
  any_position from (x ∷ xs) = grind (arith, common_steps, cases_Bool, any_position (from + 1) xs)

is_found : (found : Bool) (index : Option ℕ) → IsFoundAt found index → found ≡ is_some index
is_found b found e = grind (arith, common_steps, true≢false)

-- a lookup in the index set at the root of an archive finds the first item of the list
pub members_listed : {A Q K W : Type 0} (H : Type 0) (wt : Words W) → IsArchiveWord wt.word → (ks : Specs K) (keys : NativeKeys A Q) → FitsItsEqual ks.spec keys.represents keys.equal keys.fits
    → MembersFoundAreListed H wt ks keys
members_listed H wt kind ks keys native = λ set root archive factor items query there at is.
    let r = first_in_map kind (keys_of set) keys native unit_represents query archive _ factor (with_units items) (there.0 ∙ at.0, there.1 ∙ at.1) is in
    let index = r.index ∙ position_units (keys.equal query) 0 items in
    record {
      index = λ found finds. finds r.homes r.written ∙ index ∙ sym (position_from-zero (keys.equal query) items);
      member = λ found finds. is_found found _ (finds r.homes r.written) ∙ ap is_some index ∙ any_position (keys.equal query) 0 items;
    }
