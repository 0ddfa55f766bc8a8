use Rattle.std.proofs.lemmas.Str.{IsUtf8-from_ascii}
use Rattle.rkyv_base.proofs.text.check_out_of_line_utf8.Goals as goal

pub returns-then-is_ascii : goal.returns-then-is_ascii
returns-then-is_ascii c = IsUtf8-from_ascii c.args.text.now (c.is_ascii.ensures c.if-is_ascii.true)
