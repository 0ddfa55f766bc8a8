-- Commands of a command line.
use Rattle.std.specs.Prelude.{ℕ, List, Option, Some, None, codes, if◌then◌else◌, leb, ◌==◌}
use Rattle.std.specs.Str.{bytes_eq}
use Rattle.example_symbols_program.specs.declared.command.Command.{Command}
use Rattle.example_symbols_program.specs.declared.command.Command.TheVariants.{All, Get, Help}
use Rattle.example_symbols_program.specs.declared.command.Command.TheVariants.{List as Listing}
use Rattle.example_symbols_program.specs.declared.command.Command.TheVariants.{Write}

-- the command with this name that takes `count` arguments
abbrev pub command_of : List ℕ → ℕ → Option Command
command_of name count = if bytes_eq name (codes "--help") then Some Help
    else if bytes_eq name (codes "-h") then Some Help
    else if bytes_eq name (codes "write") then (if count == 2 then Some Write else None)
    else if bytes_eq name (codes "all") then (if count == 2 then Some All else None)
    else if bytes_eq name (codes "get") then (if leb 1 count then Some Get else None)
    else if bytes_eq name (codes "list") then (if count == 1 then Some Listing else None)
    else None

-- the least number of arguments of a command
abbrev pub least_count : Command → ℕ
least_count Help = 0
least_count Write = 2
least_count All = 2
least_count Get = 1
least_count Listing = 1
