-- Deserializing a std map, pair by pair.
use Rattle.std.proofs.Common.{◌≡◌, ◌<◌, ℕ, arith, length, refl, ap, ◌∙◌, Bool, true, cond, subst, sym, List, [], ◌∷◌, ◌++◌, append_assoc, append-nil, Option, Some, None}
use Rattle.std.proofs.lemmas.Grind.{common_steps}
use Rattle.std.specs.Borrow.{Bor}
use Rattle.std.specs.Int.{Width}
use Rattle.std.specs.HashSet.{HashSet, Updates}
use Rattle.std.specs.List.{AllZip, find}
use Rattle.std.specs.Map.{keys_of, lookup, update_all}
use Rattle.std.proofs.lemmas.List.{map-append}
use Rattle.std.proofs.lemmas.List.Folds.{find-append}
use Rattle.std.proofs.lemmas.Map.{update_all_push}
use Rattle.rkyv_base.specs.{ElementSpec, PairRepresents, entry_spec, unit_represents, unit_spec}
use Rattle.rkyv_base.specs.declared.errors.ReadError.{ReadError}
use Rattle.rkyv_keys.specs.{DeserializeErrors}
use Rattle.rkyv_table.specs.{ItemsLeft, YieldsFirstPos, item_positions, with_units}
use Rattle.rkyv_collections.specs.{AddsKey, ArePairsAt, ReadInOrderFails}
use Rattle.rkyv_collections.specs.Lemmas.StdSet.{unit_lookup}

-- a list of no elements
pub none_left : {X : Type 0} (xs : List X) → length xs ≡ 0 → xs ≡ []
none_left [] none = refl
none_left (x ∷ xs) none = absurd (omega arith)

some_between : {X : Type 0} (before : List X) (x : X) (after : List X) → 0 < length (before ++ x ∷ after)
some_between [] x after = omega arith
some_between (y ∷ before) x after = omega arith

-- one more value at the next position
read_push : {V : Type 0} (Read : ℕ → V → Type 0) (positions : List ℕ) (values : List V) (pos : ℕ) (value : V) → AllZip Read positions values → Read pos value → AllZip Read (positions ++ pos ∷ []) (values ++ value ∷ [])
read_push Read [] [] pos value read next = (next, tt)
read_push Read [] (v ∷ vs) pos value read next = absurd read
read_push Read (q ∷ qs) [] pos value read next = absurd read
read_push Read (q ∷ qs) (v ∷ vs) pos value read next = (read.0, read_push Read qs vs pos value read.1 next)

-- the keys of pairs with the unit value
pub keys_read : {A : Type 0} (k : ElementSpec) (key : List ℕ → ℕ → A → Type 0) (b positions : List ℕ) (pairs : List (A × Unit {0})) → ArePairsAt k unit_spec key unit_represents b positions pairs → AllZip (key b) positions (keys_of pairs)
keys_read k key b [] [] read = tt
keys_read k key b [] (x ∷ xs) read = absurd read
keys_read k key b (q ∷ qs) [] read = absurd read
keys_read k key b (q ∷ qs) (x ∷ xs) read = (read.0.0, keys_read k key b qs xs read.1)

module _ {A B : Type 0} (w : Width) (k v : ElementSpec) (key : List ℕ → ℕ → A → Type 0) (value : List ℕ → ℕ → B → Type 0) (equal : A → A → Bool) (archive : Bor (List ℕ)) (p : ℕ) where
  abbrev pub all_positions : List ℕ
  all_positions = item_positions w (entry_spec k v).size archive.now p

  -- The pairs before a walk over the archived map at `p` were inserted in order into an empty map.
  -- A lookup in it finds the values `found`, and the stored keys are `stored`
  pub record WalksOn (left : ItemsLeft) (found : A → Option B) (stored : List A) : Type 0 where
    pub same_archive : left.archive ≡ archive
    pub before : List ℕ
    pub in_order : all_positions ≡ before ++ left.positions
    pub pairs : List (A × B)
    pub read : ArePairsAt k v key value archive.now before pairs
    pub inserted : (q : A) → found q ≡ update_all equal (λ _. None) pairs q
    pub first_kept : (q : A) → find (equal q) stored ≡ find (equal q) (keys_of pairs)

  pub walks_first : (left walk : ItemsLeft) → left ≡ walk → walk.archive ≡ archive → walk.positions ≡ all_positions
      → (found : A → Option B) (stored : List A) → ((q : A) → found q ≡ None) → stored ≡ [] → WalksOn left found stored
  walks_first left walk same whole positions found stored empty none = record {
    same_archive = ap (λ (x : ItemsLeft). x.archive) same ∙ whole;
    before = [];
    in_order = sym (ap (λ (x : ItemsLeft). x.positions) same ∙ positions);
    pairs = [];
    read = tt;
    inserted = empty;
    first_kept = λ q. ap (find (equal q)) none;
  }

  module _ (before after : ItemsLeft) (key_pos : ℕ) (found : A → Option B) (stored : List A) (step : YieldsFirstPos before key_pos after) (on : WalksOn before found stored) where
    -- the positions around the next key
    pub walks_split : all_positions ≡ on.before ++ key_pos ∷ after.positions
    walks_split = on.in_order ∙ ap (λ (ps : List ℕ). on.before ++ ps) step.first

    -- the map has pairs
    pub walks_some : (positions : List ℕ) (n : ℕ) → positions ≡ all_positions → length positions ≡ n → 0 < n
    walks_some positions n same count = subst (λ m. 0 < m) (sym (ap length (same ∙ walks_split)) ∙ count) (some_between on.before key_pos after.positions)

    pub walks_next : (found' : A → Option B) (stored' : List A) (a : A) (x : B) → PairRepresents k v key value archive.now key_pos (a, x) → ((q : A) → found' q ≡ cond (equal a q) (Some x) (found q))
        → AddsKey equal stored stored' a → WalksOn after found' stored'
    walks_next found' stored' a x represents inserted adds = record {
      same_archive = step.archive ∙ on.same_archive;
      before = on.before ++ key_pos ∷ [];
      in_order = walks_split ∙ sym (append_assoc on.before (key_pos ∷ []) after.positions);
      pairs = on.pairs ++ (a, x) ∷ [];
      read = read_push (PairRepresents k v key value archive.now) on.before on.pairs key_pos (a, x) on.read represents;
      inserted = λ q. inserted q ∙ update_all_push equal (λ _. None) found on.pairs (a, x) q (on.inserted q);
      first_kept = grind (arith, common_steps, find-append, map-append);
    }

    -- the error of the next key or value
    pub walks_fail : (fails : DeserializeErrors) (e : ReadError) → fails archive.now key_pos e → ReadInOrderFails (PairRepresents k v key value) fails archive.now all_positions e
    walks_fail fails e error = record { before = on.before; pos = key_pos; after = after.positions; in_order = walks_split; values = on.pairs; read = on.read; error = error }

  -- no position remains
  pub walks_last : (left : ItemsLeft) (found : A → Option B) (stored : List A) (on : WalksOn left found stored) → left.positions ≡ [] → ArePairsAt k v key value archive.now all_positions on.pairs
  walks_last left found stored on none = grind (arith, common_steps, append-nil)

either_way : {X : Type 0} (x : X) (s t : Bool) → cond (cond s true t) (Some x) None ≡ cond s (Some x) (cond t (Some x) None)
either_way x b t = grind (arith, common_steps)

-- a lookup among the keys of a set
abbrev pub found_units : {A : Type 0} → (A → A → Bool) → List A → A → Option (Unit {0})
found_units equal keys q = lookup (equal q) (with_units keys)

pub key_inserted : {A S : Type 0} (equal : A → A → Bool) (s n : HashSet A S) (a : A) → Updates equal s n a true → (q : A)
    → lookup (equal q) (with_units n.keys) ≡ cond (equal a q) (Some tt) (lookup (equal q) (with_units s.keys))
key_inserted equal s n a u q = grind (arith, common_steps, unit_lookup, either_way)
