use Rattle.std.proofs.Common.{◌≡◌, ◌++◌, ℕ, List, map}
use Rattle.std.specs.List.{filter_map}
use Rattle.std.specs.Str.Iter.{lines_steps}
use Rattle.std.proofs.lemmas.Iterator.{YieldsList}
use Rattle.example_symbols.specs.{symbol_of, symbols_of, with_name_bytes}
use Rattle.example_symbols.proofs.lines.parse.Given as goal

-- the symbols that are found, and those of the remaining lines, are all symbols
abbrev pub invariant-loop-line : goal.invariant-loop-line
invariant-loop-line l = (left : List (List ℕ)) × YieldsList lines_steps (λ line. line.now) l.line-iterator left × (map with_name_bytes l.symbols.items ++ filter_map symbol_of left ≡ symbols_of l.text)
