-- Lookups of all names of a list.
use Rattle.std.proofs.Common.{◌≡◌, ◌∙◌, ℕ, Bor, IfOk, List, Option, Result, ap}
use Rattle.std.proofs.lemmas.Iterator.{YieldsList, items_from_drains}
use Rattle.std.proofs.lemmas.Result.{IfOk-weaker}
use Rattle.example_symbols_program.specs.{LooksUpAll, outcome_of_names}
use Rattle.example_symbols_program.specs.declared.outcome.Outcome.{Outcome}

module _ {S : Type 0} {steps : S → Option (Bor (List ℕ)) → S → Type 0} {s : S} {names : List (List ℕ)} (table : List ℕ) where
  -- the outcome of lookups of the names that an iterator yields is that of the list of its names
  pub outcome_of_list : (outcome : Outcome) → LooksUpAll steps s table outcome → YieldsList steps (λ name. name.now) s names → outcome ≡ outcome_of_names table names
  outcome_of_list outcome h yields =
      let drains = h.1 in
      h.2 ∙ ap (outcome_of_names table) (items_from_drains h.0 (drains.1.0, drains.1.1, λ _. (drains.0, drains.1.2)) yields)

  -- the same for a result
  pub result_of_list : {E : Type 0} (result : Result Outcome E) → IfOk result (λ outcome. LooksUpAll steps s table outcome) → YieldsList steps (λ name. name.now) s names → IfOk result (λ outcome. outcome ≡ outcome_of_names table names)
  result_of_list result h yields = IfOk-weaker result _ _ (λ outcome looked. outcome_of_list outcome looked yields) h
