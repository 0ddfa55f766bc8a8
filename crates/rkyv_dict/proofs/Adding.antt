-- Appending an output to a text.
use Rattle.std.proofs.Common.{◌≡◌, ℕ, List, [], sym, subst}
use Rattle.std.proofs.lemmas.List.{append-nil}
use Rattle.rkyv_dict.specs.declared.script.Command.{Command}
use Rattle.rkyv_dict.specs.{AppendsSome, State, StepsTo, command_request}

pub adds_none : (text : List ℕ) (accepts : List ℕ → Type 0) → accepts [] → AppendsSome text text accepts
adds_none text accepts h = record { printed = []; added = sym (append-nil text); accepted = h }

-- the output of a command that equals a known one
pub adds_as : (old now : List ℕ) (s s' : State) (command known : Command) → command ≡ known
    → AppendsSome old now (λ printed. StepsTo s (command_request known) printed s') → AppendsSome old now (λ printed. StepsTo s (command_request command) printed s')
adds_as old now s s' command known is h = subst (λ (k : Command). AppendsSome old now (λ printed. StepsTo s (command_request k) printed s')) (sym is) h
