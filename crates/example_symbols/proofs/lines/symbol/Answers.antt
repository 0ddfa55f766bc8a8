use Rattle.std.proofs.Common.{◌≡◌, ◌<◌, ◌^◌, arith, length, subst, sym, true}
use Rattle.std.specs.Char.{is_ascii_hexdigit}
use Rattle.std.specs.List.{list_all}
use Rattle.std.specs.Str.Parse.{IsNumeral, digits_value}
use Rattle.std.proofs.lemmas.Bool.Decides.{nat_tests}
use Rattle.std.proofs.lemmas.Grind.{common_steps}
use Rattle.std.proofs.lemmas.Str.{IsCharBoundary-after_ascii}
use Rattle.example_symbols.specs.{has_symbol}
use Rattle.example_symbols.proofs.Digits.{hexdigits_numeral, symbol_layout}
use Rattle.example_symbols.proofs.lines.symbol.Goals as goal

pub range_from-requires : goal.range_from-requires
range_from-requires c = λ _.
    let h : has_symbol c.args.line.now ≡ true = grind (arith, nat_tests) in
    let is = symbol_layout c.args.line.now h in
    IsCharBoundary-after_ascii c.args.line.now 18 c.utf8.line (omega arith) (omega arith)

pub returns-in_default : goal.returns-in_default
returns-in_default c =
    let h : has_symbol c.args.line.now ≡ true = grind (arith, nat_tests) in
    let is = symbol_layout c.args.line.now h in
    let digits : list_all is_ascii_hexdigit c.range.result.now ≡ true = grind (arith, common_steps) in
    let sixteen : length c.range.result.now ≡ 16 = grind (arith, common_steps) in
    let numeral = hexdigits_numeral c.range.result.now digits sixteen in
    absurd (c.in_default.ensures.value (subst (λ ds. IsNumeral 16 ds × (digits_value 16 ds < 2 ^ 64)) (sym numeral.0) (numeral.1, numeral.2)))
