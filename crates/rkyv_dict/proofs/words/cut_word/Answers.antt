use Rattle.std.proofs.Common.{None, Some}
use Rattle.rkyv_dict.proofs.Cuts.{cut_first}
use Rattle.rkyv_dict.proofs.words.cut_word.Goals as goal

pub returns-in-Some : goal.returns-in-Some
returns-in-Some c = cut_first c.args.text.now (Some (c.in-Some.word, c.in-Some.rest)) c.in-Some.ensures.cases

pub returns-in-None : goal.returns-in-None
returns-in-None c = cut_first c.args.text.now None c.in-None.ensures.cases
