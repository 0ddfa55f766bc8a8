-- One more pair that is taken as an entry.
use Rattle.std.proofs.Common.{List, [], ◌∷◌, ◌++◌, Some, Option, arith}
use Rattle.std.proofs.lemmas.Grind.{common_steps}
use Rattle.std.specs.Iterator.{Yields}
use Rattle.std.proofs.lemmas.List.{map-append}
use Rattle.rkyv_base.specs.declared.adapter.EntryAdapter.{EntryAdapter}
use Rattle.rkyv_index.specs.{pairs_of}
use Rattle.rkyv_table.proofs.PlacingSteps.{yields_more}

pub entries_yield_more : {S BK BV A B : Type 0} (steps : S → Option (BK × BV) → S → Type 0) (s t u : S) (entries : List (EntryAdapter BK BV A B)) (entry : EntryAdapter BK BV A B)
    → Yields steps s (pairs_of entries) t → steps t (Some (entry.key, entry.value)) u → Yields steps s (pairs_of (entries ++ entry ∷ [])) u
entries_yield_more steps s t u entries entry y h = grind (arith, common_steps, map-append, yields_more)
