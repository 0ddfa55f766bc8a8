-- Sets, as maps to the unit value.
use Rattle.std.proofs.Common.{◌≡◌, ◌∙◌, ℕ, Bool, List, [], ◌∷◌, None, Option, Some, ap, cond, false, map, refl, sym, true}
use Rattle.std.specs.List.{find}
use Rattle.std.specs.Option.{is_some, option_map}
use Rattle.std.specs.Prelude.{MatchOption}
use Rattle.rkyv_table.specs.{with_units}
use Rattle.rkyv_keys.specs.{first_value}
use Rattle.ffi_calls.specs.{IsAny}
use Rattle.ffi_calls.specs.declared.any_value.IndexedValue.{IndexedValue}

-- pairs with the unit value are the pairs of their keys
pub with_units_of_keys : {A : Type 0} (pairs : List (A × Unit {0})) → with_units (map (λ (pair : A × Unit {0}). pair.0) pairs) ≡ pairs
with_units_of_keys [] = refl
with_units_of_keys (x ∷ xs) = ap (λ pairs. x ∷ pairs) (with_units_of_keys xs)

-- a key is found if and only if its pair with the unit value is
module _ {A : Type 0} (accepts : A → Bool) where
  by_test : (b : Bool) (x : A) (o : Option (A × Unit {0})) (p : Option A) → is_some (option_map (λ (pair : A × Unit {0}). pair.1) o) ≡ is_some p
      → is_some (option_map (λ (pair : A × Unit {0}). pair.1) (cond b (Some (x, tt)) o)) ≡ is_some (cond b (Some x) p)
  by_test true x o p h = refl
  by_test false x o p h = h

  key_found : (keys : List A) → is_some (first_value accepts (with_units keys)) ≡ is_some (find accepts keys)
  key_found [] = refl
  key_found (x ∷ xs) = by_test (accepts x) x (find (λ (pair : A × Unit {0}). accepts pair.0) (with_units xs)) (find accepts xs) (key_found xs)

  result_found : (o : Option (Unit {0})) (result : Option IndexedValue)
      → MatchOption result (o ≡ None) (λ found. (found.index ≡ 0) × ((x : Unit {0}) × (o ≡ Some x) × IsAny found.value x)) → is_some result ≡ is_some o
  result_found o None h = sym (ap is_some h)
  result_found o (Some found) h = sym (ap is_some h.1.1)

  -- a lookup finds a key if and only if one is accepted
  pub item_found : (keys : List A) (result : Option IndexedValue)
      → MatchOption result (first_value accepts (with_units keys) ≡ None) (λ found. (found.index ≡ 0) × ((x : Unit {0}) × (first_value accepts (with_units keys) ≡ Some x) × IsAny found.value x))
      → is_some result ≡ is_some (find accepts keys)
  item_found keys result h = result_found (first_value accepts (with_units keys)) result h ∙ key_found keys
