use Rattle.std.proofs.Common.{◌≡◌, ℕ, List, rules, string_bytes}
use Rattle.std.specs.Str.Lines.{lines}
use Rattle.std.proofs.lemmas.Iterator.{YieldsList-from_map_by, YieldsList-from_slice}
use Rattle.std.proofs.lemmas.Iterator.Splits.{YieldsList-from_lines}
use Rattle.std.proofs.lemmas.Result.{IfOk-weaker}
use Rattle.example_symbols_program.specs.{outcome_of_names}
use Rattle.example_symbols_program.specs.declared.outcome.Outcome.{Outcome}
use Rattle.example_symbols_program.proofs.LookUps.{result_of_list}
use Rattle.example_symbols_program.proofs.write_requested.Goals as goal

pub returns-in_ok-text-clause-lines : goal.returns-in_ok-text-clause-lines
returns-in_ok-text-clause-lines g c = λ _.
    let table = c.args.table.now in
    let text = c.as_str.result.now in
    let of_text : (outcome : Outcome) → outcome ≡ outcome_of_names table (lines text) → (x : List ℕ) × (outcome ≡ outcome_of_names table (lines x)) = λ outcome h. (text, h) in
    IfOk-weaker _ _ _ of_text (result_of_list table _ c.write_addresses.ensures (YieldsList-from_lines text c.lines.ensures.rest))

pub returns-else-is_empty-clause-names : goal.returns-else-is_empty-clause-names
returns-else-is_empty-clause-names g c = λ _.
    result_of_list c.args.table.now _ c.write_addresses-else-is_empty.ensures (YieldsList-from_map_by _ (λ name. name.now) string_bytes (YieldsList-from_slice c.args.names.now cc) c.map.ensures.closure (λ x r q k. search rules))
