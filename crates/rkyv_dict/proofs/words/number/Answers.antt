use Rattle.std.proofs.Common.{◌≡◌, ◌+◌, Some, rules, arith, take, sym, ap, ◌∙◌}
use Rattle.std.specs.Str.Parse.{digits_value}
use Rattle.std.proofs.lemmas.Int.Digits.{digits_value_more}
use Rattle.std.proofs.lemmas.List.{take_all}
use Rattle.rkyv_dict.specs.{number_of}
use Rattle.rkyv_dict.proofs.Numerals.{number_front_too_large, number_is}
use Rattle.rkyv_dict.proofs.words.number.Goals as goal

pub returns-then-not-is_numeral-clause-value : goal.returns-then-not-is_numeral-clause-value
unfolding number_of
returns-then-not-is_numeral-clause-value c = search rules

pub returns-then-next-from-clause-value : goal.returns-then-next-from-clause-value
returns-then-next-from-clause-value c =
    let more = digits_value_more 10 c.args.word.now c.loop-glyph.glyph-index (omega arith) in
    sym (number_front_too_large c.args.most c.args.word.now (c.loop-glyph.glyph-index + 1) (search rules) (omega (arith, more)))

pub loop-glyph-preserved : goal.loop-glyph-preserved
loop-glyph-preserved c =
    let more = digits_value_more 10 c.args.word.now c.loop-glyph.glyph-index (omega arith) in
    (omega (arith, more), omega arith)

pub returns-clause-value : goal.returns-clause-value
returns-clause-value c =
    let whole : take c.loop-glyph.glyph-index c.args.word.now ≡ c.args.word.now = take_all _ _ (omega arith) in
    let is : digits_value 10 c.args.word.now ≡ c.loop-glyph.value = sym (c.loop-glyph.invariant.0 ∙ ap (digits_value 10) whole) in
    sym (number_is c.args.most c.args.word.now (search rules) (omega (arith, is)) ∙ ap Some is)
