use Rattle.rkyv_base.proofs.Ascii.{ends_in_ff, ends_nowhere}
use Rattle.rkyv_base.proofs.text.is_inline_ascii.Goals as goal

pub returns-in-Some : goal.returns-in-Some
returns-in-Some c t = ends_in_ff c.args.fixed.now c.in-Some.at c.in-Some.ensures t

pub returns-in-None : goal.returns-in-None
returns-in-None c t = ends_nowhere c.args.fixed.now c.in-None.ensures
