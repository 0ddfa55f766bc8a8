-- The values of the items of an iterator.
use Rattle.std.specs.Prelude.{List, MatchOption, None, Option, Some, map}

-- each pair by its values. `key`, `value`: value of a first and of a second component
abbrev pub pair_values : {BK BV A B : Type 0} → (BK → A) → (BV → B) → List (BK × BV) → List (A × B)
pair_values key value items = map (λ item. (key item.0, value item.1)) items

-- the values of the keys
abbrev pub key_values : {BK A : Type 0} → (BK → A) → List BK → List A
key_values key items = map key items

-- keys as pairs with the unit value
abbrev pub with_units : {A : Type 0} → List A → List (A × Unit {0})
with_units keys = map (λ key. (key, tt)) keys

-- a step of an iterator of keys, as pairs with the unit value
abbrev pub UnitStep : {S BK : Type 0} → (S → Option BK → S → Type 0) → S → Option (BK × Unit {0})
    → S → Type 0
UnitStep steps s r t = MatchOption r (steps s None t) (λ x. steps s (Some x.0) t)
