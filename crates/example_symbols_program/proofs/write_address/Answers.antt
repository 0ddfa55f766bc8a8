use Rattle.std.proofs.Common.{ap}
use Rattle.example_symbols_program.specs.{outcome_of}
use Rattle.example_symbols_program.proofs.write_address.Goals as goal

pub returns-in_ok-writeln-in-Some : goal.returns-in_ok-writeln-in-Some
returns-in_ok-writeln-in-Some g c = ap outcome_of c.in-Some.ensures.found

pub returns-in_ok-writeln-in-None : goal.returns-in_ok-writeln-in-None
returns-in_ok-writeln-in-None g c = ap outcome_of c.in-None.ensures.found
