-- The remaining items of an iterator over a list.
use Rattle.std.specs.Prelude.{List}
use Rattle.std.specs.Slice.Iter.{iter_rest}
use Rattle.rkyv_table.specs.declared.table.list_inputs.PairRefs.{PairRefs}
use Rattle.rkyv_table.specs.declared.table.list_inputs.Refs.{Refs}

-- the pairs that remain, in order
abbrev pub pairs_left : {A B : Type 0} → PairRefs A B → List (A × B)
pairs_left s = iter_rest s.pairs

-- the items that remain, in order
abbrev pub items_left : {A : Type 0} → Refs A → List A
items_left s = iter_rest s.items
