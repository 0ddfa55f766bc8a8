use Rattle.std.proofs.Common.{subst, sym}
use Rattle.ffi_calls.specs.{SetsShown, key_type_of}
use Rattle.ffi_calls.proofs.overwrite.set_in_width.Goals as goal

pub returns-in-U8-clause-sets : goal.returns-in-U8-clause-sets
returns-in-U8-clause-sets g c =
    subst (λ of. SetsShown c.args.of.indexed g.W.Word.word (key_type_of g.W.Word.word of) c.args.archive.now c.args.of.value c.args.key c.args.value c.set_shown.result c.set_shown.new.archive) (sym c.in-U8.is) c.set_shown.ensures.sets

pub returns-in-U16-clause-sets : goal.returns-in-U16-clause-sets
returns-in-U16-clause-sets g c =
    subst (λ of. SetsShown c.args.of.indexed g.W.Word.word (key_type_of g.W.Word.word of) c.args.archive.now c.args.of.value c.args.key c.args.value c.set_shown-in-U16.result c.set_shown-in-U16.new.archive) (sym c.in-U16.is) c.set_shown-in-U16.ensures.sets

pub returns-in-U32-clause-sets : goal.returns-in-U32-clause-sets
returns-in-U32-clause-sets g c =
    subst (λ of. SetsShown c.args.of.indexed g.W.Word.word (key_type_of g.W.Word.word of) c.args.archive.now c.args.of.value c.args.key c.args.value c.set_shown-in-U32.result c.set_shown-in-U32.new.archive) (sym c.in-U32.is) c.set_shown-in-U32.ensures.sets

pub returns-in-U64-clause-sets : goal.returns-in-U64-clause-sets
returns-in-U64-clause-sets g c =
    subst (λ of. SetsShown c.args.of.indexed g.W.Word.word (key_type_of g.W.Word.word of) c.args.archive.now c.args.of.value c.args.key c.args.value c.set_shown-in-U64.result c.set_shown-in-U64.new.archive) (sym c.in-U64.is) c.set_shown-in-U64.ensures.sets

pub returns-in-Char-clause-sets : goal.returns-in-Char-clause-sets
returns-in-Char-clause-sets g c =
    subst (λ of. SetsShown c.args.of.indexed g.W.Word.word (key_type_of g.W.Word.word of) c.args.archive.now c.args.of.value c.args.key c.args.value c.set_shown-in-Char.result c.set_shown-in-Char.new.archive) (sym c.in-Char.is) c.set_shown-in-Char.ensures.sets

pub returns-in-Text-clause-sets : goal.returns-in-Text-clause-sets
returns-in-Text-clause-sets g c =
    subst (λ of. SetsShown c.args.of.indexed g.W.Word.word (key_type_of g.W.Word.word of) c.args.archive.now c.args.of.value c.args.key c.args.value c.set_shown-in-Text.result c.set_shown-in-Text.new.archive) (sym c.in-Text.is) c.set_shown-in-Text.ensures.sets
