use Rattle.std.proofs.Common.{◌≡◌, map, not}
use Rattle.std.specs.Prelude.{is_some}
use Rattle.std.specs.List.{list_all}
use Rattle.example_symbols.specs.{address_found}
use Rattle.example_symbols_program.proofs.write_addresses.Given as goal

-- a yielded name is missing if and only if not all of them have an address
abbrev pub invariant-loop-name : goal.invariant-loop-name
invariant-loop-name g l = not l.missing ≡ list_all (λ name. is_some (address_found name l.table)) (map (λ name. name.now) l.yielded)
