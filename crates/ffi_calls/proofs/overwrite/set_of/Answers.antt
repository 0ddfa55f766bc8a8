use Rattle.std.proofs.Common.{subst, sym}
use Rattle.ffi_calls.specs.{SetsShown, key_type_of, word_of}
use Rattle.ffi_calls.proofs.overwrite.set_of.Goals as goal

pub returns-then-of-clause-sets : goal.returns-then-of-clause-sets
returns-then-of-clause-sets c =
    subst (λ wide. SetsShown c.args.of.indexed (word_of wide) (key_type_of (word_of wide) c.args.of.key) c.args.archive.now c.args.of.value c.args.key c.args.value c.set_in_width.result c.set_in_width.new.archive) (sym c.if-of.true) c.set_in_width.ensures.sets

pub returns-else-of-clause-sets : goal.returns-else-of-clause-sets
returns-else-of-clause-sets c =
    subst (λ wide. SetsShown c.args.of.indexed (word_of wide) (key_type_of (word_of wide) c.args.of.key) c.args.archive.now c.args.of.value c.args.key c.args.value c.set_in_width-else-of.result c.set_in_width-else-of.new.archive) (sym c.if-of.false) c.set_in_width-else-of.ensures.sets
