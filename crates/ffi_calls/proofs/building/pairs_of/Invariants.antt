use Rattle.ffi_calls.specs.{IsPairOf}
use Rattle.ffi_calls.proofs.Collected.{Collecting}
use Rattle.ffi_calls.proofs.building.pairs_of.Given as goal

-- the pairs are the pairs of the items that are read; the vector has room for the others
abbrev pub invariant-loop-item : goal.invariant-loop-item
invariant-loop-item g l = Collecting (IsPairOf g.A.FromAny g.B.FromAny) l.items l.item-index l.pairs
