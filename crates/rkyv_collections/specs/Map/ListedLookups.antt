-- Lookups in a map that represents a list of pairs, in terms of only the list.
use Rattle.rkyv_base.specs.declared.element.HasSpec.{Ghosts as Specs}
use Rattle.rkyv_base.specs.declared.width.Word.{Ghosts as Words}
use Rattle.std.specs.Prelude.{◌≡◌, ℕ, Bool, IfSome, List, None, Option, Some}
use Rattle.std.specs.Option.{is_some, option_map}
use Rattle.rkyv_base.specs.{ElementSpec, PairRepresents, ValidAt}
use Rattle.rkyv_base.specs.declared.view.View.{View}
use Rattle.rkyv_collections.specs.Map.{FindsFirstKey, IsKeyIn, IsPairAt, IsPairIn, IsValueAt}
use Rattle.rkyv_collections.specs.Map.{IsValueIn, IsViewAt, map_bytes, map_pos}
use Rattle.rkyv_collections.specs.Map.MapFormat.{MapRepresents}
use Rattle.rkyv_keys.specs.{IsFoundAt, IsFoundPair, IsFoundValue, NativePairs, first_pair}
use Rattle.rkyv_keys.specs.{first_value}
use Rattle.rkyv_collections.specs.declared.map.ArchivedHashMap.{ArchivedHashMap}

-- a valid key is accepted if and only if `accept_value` accepts the value that it represents
abbrev pub AgreesOnKeys : {A : Type 0} → ElementSpec → (List ℕ → ℕ → A → Type 0) → List ℕ
    → (ℕ → Bool)
    → (A → Bool) → Type 0
AgreesOnKeys {A} k key b accept accept_value = (a : A) (q : ℕ) → ValidAt k b q → key b q a
    → accept q ≡ accept_value a

module _ {A B : Type 0} (k v : ElementSpec) (key : List ℕ → ℕ → A → Type 0)
    (value : List ℕ → ℕ → B → Type 0) where
  -- the position is the position of the pair, or there is neither
  abbrev pub IsPosOfPair : List ℕ → Option ℕ → Option (A × B) → Type 0
  IsPosOfPair b None None = Unit {0}
  IsPosOfPair b (Some q) (Some pair) = PairRepresents k v key value b q pair
  IsPosOfPair b None (Some pair) = ⊥
  IsPosOfPair b (Some q) None = ⊥

module _ {A B K V H W : Type 0} {ks : Specs K} {vs : Specs V} {wt : Words W}
    (key : List ℕ → ℕ → A → Type 0) (value : List ℕ → ℕ → B → Type 0) (key_hash : List ℕ → ℕ → ℕ)
    (m : ArchivedHashMap K V H W ks vs wt) (accept : ℕ → Bool) (accept_value : A → Bool) where
  -- The results of `get_key_value`, a set's `get`, `get` and `contains_key`,
  -- by their clauses on the first accepted key. They are the first pair
  -- of the list with an accepted key, its key, its value, and `true` if there is one
  pub record FindsListed (pairs : List (A × B)) : Type 0 where
    pub returns_pair : (result : Option (View K × View V)) → IfSome result (IsPairIn m)
        → FindsFirstKey m key_hash accept (IsPairAt result)
        → IsFoundPair key value result (first_pair accept_value pairs)
    pub returns_key : (result : Option (View K)) → IfSome result (IsKeyIn m)
        → FindsFirstKey m key_hash accept (IsViewAt result)
        → IsFoundValue key result (option_map (λ pair. pair.0) (first_pair accept_value pairs))
    pub returns_value : (result : Option (View V)) → IfSome result (IsValueIn m)
        → FindsFirstKey m key_hash accept (IsValueAt ks.spec vs.spec result)
        → IsFoundValue value result (first_value accept_value pairs)
    pub contains : (result : Bool) → FindsFirstKey m key_hash accept (IsFoundAt result)
        → result ≡ is_some (first_pair accept_value pairs)

-- In a map that represents a list of pairs, a lookup finds the first pair
-- of the list with an accepted key. `wt`: word of the archive, `native`: what represents the pairs
abbrev pub LookupsFindListed : {A B K V W : Type 0} → (H : Type 0) → Words W → Specs K → Specs V
    → NativePairs A B → Type 0
LookupsFindListed {A} {B} {K} {V} {W} H wt ks vs native =
    (m : ArchivedHashMap K V H W ks vs wt) (accept : ℕ → Bool) (accept_value : A → Bool)
    (factor : ℕ × ℕ)
    (pairs : List (A × B))
    → AgreesOnKeys ks.spec native.key (map_bytes m) accept accept_value
    → MapRepresents wt.word ks.spec vs.spec native.key native.value native.key_hash factor
    (map_bytes m) (map_pos m) pairs
    → FindsListed native.key native.value native.key_hash m accept accept_value pairs
