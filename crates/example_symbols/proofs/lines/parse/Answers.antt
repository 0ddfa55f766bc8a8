use Rattle.std.proofs.Common.{append-nil, ap, sym, ◌∙◌, ◌++◌, map}
use Rattle.std.specs.List.{filter_map}
use Rattle.std.specs.Str.Iter.{lines_rest, lines_steps}
use Rattle.std.specs.Str.Lines.{lines}
use Rattle.std.proofs.lemmas.Iterator.Splits.{YieldsList-from_lines}
use Rattle.example_symbols.specs.{symbol_of, symbols_of, with_name_bytes}
use Rattle.example_symbols.proofs.Turns.{item_yielded, kept_on, none_yielded}
use Rattle.example_symbols.proofs.lines.parse.Goals as goal

pub loop-line-init : goal.loop-line-init
loop-line-init c = (
  lines c.args.text.now,
  YieldsList-from_lines c.args.text.now (ap (λ s. lines_rest s) c.into_iter-line-iterator.ensures.into_iter_gives ∙ c.lines-line-items.ensures.rest),
  ap (λ kept. map with_name_bytes kept ++ symbols_of c.args.text.now) c.new-symbols.ensures.items,
)

pub loop-line-preserved : goal.loop-line-preserved
loop-line-preserved c =
    let left = c.loop-line.invariant in
    let exactly = item_yielded lines_steps (λ line. line.now) _ _ c.in-Some.line left.0 left.1 c.in-Some.ensures.steps in
    (exactly.0, exactly.2, kept_on symbol_of _ _ _ left.0 exactly.0 _ exactly.1 c.in_ok-push_symbol.ensures left.2)

pub returns : goal.returns
returns c =
    let left = c.loop-line.invariant in
    let none = none_yielded lines_steps (λ line. line.now) _ _ left.0 left.1 c.in-None.ensures.steps in
    sym (append-nil _) ∙ ap (λ rest. map with_name_bytes c.loop-line.symbols.items ++ filter_map symbol_of rest) (sym none) ∙ left.2
