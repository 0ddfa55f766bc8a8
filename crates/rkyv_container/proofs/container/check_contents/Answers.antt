use Rattle.std.proofs.Common.{rules, arith}
use Rattle.std.proofs.lemmas.Grind.{common_steps}
use Rattle.rkyv_container.proofs.Opening.{value_fails, width_differs}
use Rattle.rkyv_container.proofs.container.check_contents.Goals as goal

pub returns-then-ne-3 : goal.returns-then-ne-3
returns-then-ne-3 c = grind (arith, common_steps, value_fails c.args.expected c.args.found (search rules) (search rules) (search rules))

pub returns-then-ne-4 : goal.returns-then-ne-4
returns-then-ne-4 c = grind (arith, common_steps, width_differs c.args.expected c.args.found (search rules) (search rules) (search rules) (search rules))
