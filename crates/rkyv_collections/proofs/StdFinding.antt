-- Lookups in an archive of a std map.
use Rattle.std.proofs.Common.{arith, ◌≡◌, ℕ, ◌+◌, refl, sym, ap, ◌∙◌, cond, ◌↔◌, Bool, true, List, [], ◌∷◌, None, Option, Some}
use Rattle.std.proofs.lemmas.Grind.{common_steps}
use Rattle.std.specs.Int.{Width}
use Rattle.std.specs.List.{list_any}
use Rattle.std.specs.Map.{lookup}
use Rattle.std.specs.Option.{is_some, option_map}
use Rattle.std.proofs.lemmas.Bool.{cases_Bool, true≢false}
use Rattle.std.proofs.lemmas.Option.{none-some, same_Some}
use Rattle.std.specs.Prelude.{IsSome, IsSomeAnd, IsTrue, not}
use Rattle.rkyv_scan.specs.{Hasher, HasherCall, NumbersFit, generic_kind, hash_of_calls}
use Rattle.rkyv_base.specs.{ElementSpec, Format, IsArchiveWord, IsElement, IsFormat, Viewable, entry_spec, unit_represents, unit_spec, value_offset, written_as}
use Rattle.rkyv_keys.specs.{Comparison, FitsItsEqual, IsQuery, first_pair, hash_at, hash_of}
use Rattle.rkyv_keys.specs.Lemmas.OfEntries.{valid_key}
use Rattle.rkyv_table.specs.{TableResolver, home_positions, listed, pos_found, with_units}
use Rattle.rkyv_collections.specs.{FindsEntries, FindsFirstAccepted, FindsMembers, FindsPair, IsPosOfPair, IsValueBehind, MapRepresents, map_format, map_spec, of_entries, pair_at}
use Rattle.rkyv_collections.specs.Lemmas.MapSound.{listed_map_sound}
use Rattle.rkyv_base.specs.Lemmas.Pairs.{written_as-format}
use Rattle.rkyv_collections.specs.Lemmas.DistinctEntries.{of_entries-format}
use Rattle.rkyv_collections.proofs.FoundPairs.{first_listed}
use Rattle.rkyv_collections.specs.Lemmas.StdSet.{unit_lookup}
use Rattle.rkyv_collections.proofs.WrittenPairs.{first_accepted, pair_valid}

-- the value of the first accepted pair
first_looked_up : {A B : Type 0} (accept_value : A → Bool) (entries : List (A × B)) → option_map (λ pair. pair.1) (first_pair accept_value entries) ≡ lookup accept_value entries
first_looked_up accept_value [] = refl
first_looked_up accept_value (e ∷ es) = grind (arith, common_steps, cases_Bool, first_looked_up accept_value es)

-- the result of a lookup with a value, if an equal value is found
as_value : {B : Type 0} (value : List ℕ → ℕ → B → Type 0) (b : List ℕ) (offset : ℕ) (key_pos : Option ℕ) (o : Option B) (x : B) (r : Bool) → Some x ≡ o
    → IsTrue r ↔ IsSomeAnd key_pos (λ q. value b (q + offset) x) → IsTrue r ↔ IsValueBehind value b offset key_pos o
as_value value b offset key_pos found x r e h = grind (arith, common_steps, none-some, same_Some)

-- the result of a lookup without a value
as_none : {B : Type 0} (value : List ℕ → ℕ → B → Type 0) (b : List ℕ) (offset : ℕ) (key_pos : Option ℕ) (o : Option B) (found r : Bool) → None ≡ o
    → IsTrue found ↔ IsSome key_pos → r ≡ not found → IsTrue r ↔ IsValueBehind value b offset key_pos o
as_none value b offset key_pos o found r e h n = grind (arith, common_steps, none-some, true≢false)

-- The result for a key that is looked up in entries. If they have a value,
-- an equal one must be found. If they have none, none may be found.
module _ {A B : Type 0} (w : Width) (k v : ElementSpec) (hash : A → ℕ) (fits : A → List ℕ → ℕ → Bool) (equals : List ℕ → ℕ → B → Type 0) (b : List ℕ) (p : ℕ) (key : A) (accept_value : A → Bool) (entries : List (A × B)) where
  abbrev key_pos : Option ℕ
  key_pos = pos_found generic_kind w (entry_spec k v).size b p (hash key) (fits key b)

  pub accepted_some : (x : B) (r : Bool) → Some x ≡ lookup accept_value entries → IsTrue r ↔ FindsPair w k v hash fits equals b p (key, x) → IsTrue r ↔ FindsFirstAccepted w k hash fits v equals b p key accept_value entries
  accepted_some x r e h = as_value equals b (value_offset k v) key_pos (lookup accept_value entries) x r e h

  pub accepted_none : (found r : Bool) → None ≡ lookup accept_value entries → IsTrue found ↔ IsSome key_pos → r ≡ not found → IsTrue r ↔ FindsFirstAccepted w k hash fits v equals b p key accept_value entries
  accepted_none found r e h n = as_none equals b (value_offset k v) key_pos (lookup accept_value entries) found r e h n

-- at the position of a pair, its value is behind the key
value_behind : {A B : Type 0} (k v : ElementSpec) (key : List ℕ → ℕ → A → Type 0) (value : List ℕ → ℕ → B → Type 0) (b : List ℕ) (key_pos : Option ℕ) (o : Option (A × B))
    → IsPosOfPair k v key value b key_pos o → IsValueBehind value b (value_offset k v) key_pos (option_map (λ pair. pair.1) o)
value_behind k v key value b found o h = grind (arith, common_steps)

-- both find something, or neither does
both_or_none : {B : Type 0} (value : List ℕ → ℕ → B → Type 0) (b : List ℕ) (offset : ℕ) (key_pos : Option ℕ) (o : Option B) → IsValueBehind value b offset key_pos o → is_some key_pos ≡ is_some o
both_or_none value b offset found o h = grind (arith, common_steps)

some_either : {X : Type 0} (x : X) (t : Bool) → is_some (cond t (Some x) None) ≡ t
some_either x t = grind (arith, common_steps)

module _ {State : Type 0} (hasher : Hasher State) (small : NumbersFit hasher) (w : Width) {k v : ElementSpec} (kl : IsElement k) (vl : IsElement v)
    {A B Q : Type 0} {key : List ℕ → ℕ → A → Type 0} {value : List ℕ → ℕ → B → Type 0} {same : Comparison} {key_calls : List ℕ → ℕ → List HasherCall}
    {calls : Q → List HasherCall} {fits : Q → List ℕ → ℕ → Bool} (query : IsQuery k same key_calls calls fits) (factor : ℕ × ℕ) where
  -- in a map that represents these entries
  entries_found : (b : List ℕ) (p : ℕ) → Viewable (map_spec w k v) b p → (entries : List (A × B))
      → MapRepresents w k v key value (hash_at hasher key_calls) factor b p entries
      → FindsEntries w k (hash_of hasher calls) fits key v value b p entries
  entries_found b p view entries st q accept_value agrees =
      let hash = hash_at hasher key_calls in
      let accept = fits q b in
      let positions = home_positions w (entry_spec k v).size b p st.homes in
      let found = first_accepted w k v kl vl hash b p st.homes view st.written (hash_of hasher calls q) accept (small (calls q))
      (λ i h accepted.
      ap (hash_of_calls hasher)
      (sym (query.same_calls q b (pair_at w k v b p st.homes i) (valid_key kl vl b (pair_at w k v b p st.homes i) (pair_valid w k v kl vl hash b p st.homes view st.written i h)) accepted))) in
      grind (arith, common_steps, first_listed w k v kl vl key value hash factor b p entries view accept accept_value agrees st, first_looked_up accept_value entries, value_behind)

  -- in any archive with the written bytes of a std map
  looked_up : IsArchiveWord w → (equal : A → A → Bool) {R : Type 0} (f : Format (List (A × B)) R)
      → IsFormat (map_spec w k v) (MapRepresents w k v key value (hash_at hasher key_calls) factor) f
      → IsFormat (map_spec w k v) (FindsEntries w k (hash_of hasher calls) fits key v value) (of_entries equal f)
  looked_up kind equal f base =
      of_entries-format w kind kl vl factor equal (FindsEntries w k (hash_of hasher calls) fits key v value) (λ b p view es st apart. entries_found b p view es st) f base

-- in any archive with the written bytes of a value that is written as a list of entries
-- with distinct keys
module _ {State : Type 0} (hasher : Hasher State) (small : NumbersFit hasher) (w : Width) (kind : IsArchiveWord w) (max : ℕ) {k v : ElementSpec} (kl : IsElement k) (vl : IsElement v)
    {A B Q X R S : Type 0} {key : List ℕ → ℕ → A → Type 0} {value : List ℕ → ℕ → B → Type 0} {same : Comparison} {key_calls : List ℕ → ℕ → List HasherCall}
    {calls : Q → List HasherCall} {fits : Q → List ℕ → ℕ → Bool} (query : IsQuery k same key_calls calls fits)
    {own_calls : A → List HasherCall} {own_fits : A → List ℕ → ℕ → Bool} (own : IsQuery k same key_calls own_calls own_fits)
    {equal : A → A → Bool} (native : FitsItsEqual k key equal own_fits) (itself : (a : A) → equal a a ≡ true)
    {key_format : Format A R} {value_format : Format B S} (key_law : IsFormat k key key_format) (value_law : IsFormat v value value_format) (model : X → List (A × B)) where
  abbrev pub whole_format : Format (List (A × B)) TableResolver
  whole_format = of_entries equal (listed max (7, 8) (map_format w k v key_format value_format (hash_of hasher own_calls) (7, 8)))

  pub entries_looked_up : IsFormat (map_spec w k v) (λ b p x. FindsEntries w k (hash_of hasher calls) fits key v value b p (model x)) (written_as model whole_format)
  entries_looked_up =
      let f = listed max (7, 8) (map_format w k v key_format value_format (hash_of hasher own_calls) (7, 8)) in
      written_as-format model (map_spec w k v) (FindsEntries w k (hash_of hasher calls) fits key v value) (of_entries equal f)
      (looked_up hasher small w kl vl query (7, 8) kind equal f (listed_map_sound hasher w kl vl (7, 8) max kind own native itself key_law value_law))

-- the same for a set
pub members_looked_up : {X A Q R : Type 0} (w : Width) (k s : ElementSpec) (key : List ℕ → ℕ → A → Type 0) (hash : Q → ℕ) (fits : Q → List ℕ → ℕ → Bool) (model : X → List A) (f : Format X R)
    → IsFormat s (λ b p x. FindsEntries w k hash fits key unit_spec unit_represents b p (with_units (model x))) f
    → IsFormat s (λ b p x. FindsMembers w k hash fits key b p (model x)) f
members_looked_up w k s key hash fits model f law = record {
  size_exact = law.size_exact;
  exclusive = law.exclusive;
  sound = λ x r c p0 p part out h i t o q al.
      let d = law.sound x r c p0 p part out h i t o q al in (
        d.0,
        d.1,
        λ query accept_value agrees.
            let key_pos = pos_found generic_kind w (entry_spec k unit_spec).size c p (hash query) (fits query c) in
            both_or_none unit_represents c (value_offset k unit_spec) key_pos (lookup accept_value (with_units (model x))) (d.2 query accept_value agrees)
            ∙ ap is_some (unit_lookup accept_value (model x)) ∙ some_either {X = Unit {0}} tt (list_any accept_value (model x)),
      );
}
