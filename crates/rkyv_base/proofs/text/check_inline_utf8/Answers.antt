use Rattle.std.proofs.lemmas.Str.{IsUtf8-from_ascii}
use Rattle.rkyv_base.specs.{inline_text}
use Rattle.rkyv_base.proofs.text.check_inline_utf8.Goals as goal

pub returns-then-is_inline_ascii : goal.returns-then-is_inline_ascii
returns-then-is_inline_ascii c = IsUtf8-from_ascii (inline_text c.args.fixed.now) (c.is_inline_ascii.ensures c.if-is_inline_ascii.true)
