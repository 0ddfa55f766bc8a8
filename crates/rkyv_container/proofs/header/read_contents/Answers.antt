use Rattle.std.proofs.Common.{rules}
use Rattle.rkyv_container.proofs.HeaderChecks.{width_fails}
use Rattle.rkyv_container.proofs.header.read_contents.Goals as goal

pub returns-in_err-width : goal.returns-in_err-width
returns-in_err-width c = search (rules, width_fails)
