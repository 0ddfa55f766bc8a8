-- Keys that are written with the unit value are written as a set of the keys.
use Rattle.std.proofs.Common.{◌≡◌, ℕ, refl, ap, List, [], ◌∷◌, map, Option, Result, MatchResult}
use Rattle.std.specs.Iterator.{Drains}
use Rattle.rkyv_base.specs.{Format, Output, written_as}
use Rattle.rkyv_base.specs.declared.errors.WriteError.{WriteError}
use Rattle.rkyv_table.specs.{UnitStep, WriteItemsFails, WroteItems, YieldsOtherCount, key_values, pair_values, with_units}
use Rattle.rkyv_table.proofs.Through.{drains_through, other_through, results_through}

same_keys : {BK A : Type 0} (key : BK → A) (xs : List (BK × Unit {0})) → pair_values key (λ u. u) xs ≡ with_units (key_values key (map (λ x. x.0) xs))
same_keys key [] = refl
same_keys {BK} {A} key (x ∷ xs) = ap (λ (t : List (A × Unit {0})). (key x.0, tt) ∷ t) (same_keys key xs)

module _ {T S BK : Type 0} (inner : T → S) (steps : S → Option BK → S → Type 0) where
  abbrev pub UnitSteps : T → Option (BK × Unit {0}) → T → Type 0
  UnitSteps s r t = UnitStep steps (inner s) r (inner t)

  module _ {A R : Type 0} (key : BK → A) (base : Format (List (A × Unit {0})) R) (len : ℕ) (factor : ℕ × ℕ) (max : ℕ) (o o' : Output) (s : T) where
    abbrev AsPairs : Format (List (BK × Unit {0})) R
    AsPairs = written_as (pair_values key (λ u. u)) base

    abbrev AsKeys : Format (List BK) R
    AsKeys = written_as (key_values key) (written_as with_units base)

    -- writing the map of the keys has the result of writing the set
    pub results_set : {F : Type 0} (limit : ℕ) (result : Result R (WriteError F))
        → MatchResult result (WroteItems (Drains UnitSteps s) len factor max AsPairs o o' limit) (WriteItemsFails (Drains UnitSteps s) len factor max AsPairs o o' limit (YieldsOtherCount UnitSteps len s))
        → MatchResult result (WroteItems (Drains steps (inner s)) len factor max AsKeys o o' limit) (WriteItemsFails (Drains steps (inner s)) len factor max AsKeys o o' limit (YieldsOtherCount steps len (inner s)))
    results_set limit result =
        results_through (λ x. x.0) (Drains UnitSteps s) (Drains steps (inner s)) (YieldsOtherCount UnitSteps len s) (YieldsOtherCount steps len (inner s))
        (λ xs d. drains_through inner UnitSteps steps (λ x. x.0) (λ s' t' h. h) (λ s' t' x h. h) xs s d)
        (λ n h. other_through inner UnitSteps steps (λ x. x.0) (λ s' t' h'. h') (λ s' t' x h'. h') len s n h)
        (pair_values key (λ u. u)) (λ keys. with_units (key_values key keys)) (same_keys key) base len factor max limit o o' result
