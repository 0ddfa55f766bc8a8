-- Outcomes of commands.
use Rattle.std.specs.Prelude.{ℕ, List, None, Option, Some, if◌then◌else◌, is_some, map, ◌≡◌}
use Rattle.std.specs.Borrow.{Bor}
use Rattle.std.specs.Iterator.{Drains}
use Rattle.std.specs.List.{list_all}
use Rattle.example_symbols.specs.{IsTable, address_found}
use Rattle.example_symbols_program.specs.declared.outcome.Outcome.{Outcome}
use Rattle.example_symbols_program.specs.declared.outcome.Outcome.TheVariants.{Complete, Missing}

-- the outcome of a lookup with the result `found`
abbrev pub outcome_of : {A : Type 0} → Option A → Outcome
outcome_of (Some _) = Complete
outcome_of None = Missing

-- the outcome of lookups: `Complete` if `table` has an address for each name, else `Missing`
abbrev pub outcome_of_names : List ℕ → List (List ℕ) → Outcome
outcome_of_names table names =
    if list_all (λ name. is_some (address_found name table)) names then Complete else Missing

-- `outcome` is that of lookups in `table` of all names that the iterator yields
abbrev pub LooksUpAll : {S : Type 0} → (S → Option (Bor (List ℕ)) → S → Type 0)
    → S → List ℕ → Outcome → Type 0
LooksUpAll steps iterator table outcome = (items : List (Bor (List ℕ)))
    × Drains steps iterator items
    × (outcome ≡ outcome_of_names table (map (λ name. name.now) items))

-- `outcome` is that of lookups of the names in a valid table
abbrev pub IsOutcomeFor : List (List ℕ) → Outcome → Type 0
IsOutcomeFor names outcome =
    (table : List ℕ) × IsTable table × (outcome ≡ outcome_of_names table names)
