use Rattle.std.proofs.Common.{◌≡◌, ◌∙◌, ap, map, rules, sym}
use Rattle.std.proofs.lemmas.Iterator.{YieldsList-from_map_by, YieldsList-from_slice}
use Rattle.std.proofs.lemmas.Simd.{map-map}
use Rattle.example_symbols.specs.{symbols_of, with_name_bytes}
use Rattle.example_symbols_program.specs.{outcome_of_names}
use Rattle.example_symbols_program.proofs.LookUps.{outcome_of_list}
use Rattle.example_symbols_program.proofs.build.Goals as goal

pub returns-clause-all : goal.returns-clause-all
returns-clause-all c = λ _.
    let symbols = c.in_ok-symbols.symbols.items in
    let table = c.as_slice-4.result.now in
    let names : map (λ symbol. symbol.0.now) symbols ≡ map (λ symbol. symbol.0) (symbols_of c.as_str.result.now) =
    sym (map-map (λ symbol. symbol.0) with_name_bytes symbols) ∙ ap (map (λ symbol. symbol.0)) c.in_ok-symbols.ensures in
    let outcome = outcome_of_list table c.in_ok-outcome.outcome c.in_ok-outcome.ensures (YieldsList-from_map_by _ _ (λ symbol. symbol.0.now) (YieldsList-from_slice symbols cc) c.map-names.ensures.closure (λ x r q k. search rules)) in
    (c.as_str.result.now, (table, search rules, outcome ∙ ap (outcome_of_names table) names))
