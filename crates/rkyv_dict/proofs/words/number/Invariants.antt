use Rattle.std.proofs.Common.{◌≡◌, ◌≤◌, take}
use Rattle.std.specs.Str.Parse.{digits_value}
use Rattle.rkyv_dict.proofs.words.number.Given as goal

abbrev pub invariant-loop-glyph : goal.invariant-loop-glyph
invariant-loop-glyph l = (l.value ≡ digits_value 10 (take l.glyph-index l.word)) × (l.value ≤ l.most)
