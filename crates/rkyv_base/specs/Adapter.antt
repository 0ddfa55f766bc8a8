-- Pairs of a key and a value by reference or by value.
use Rattle.rkyv_base.specs.declared.adapter.EntryAdapter.{EntryAdapter}

-- the key and the value of the adapter `x`
abbrev pub pair_of : {BK BV A B : Type 0} → (BK → A) → (BV → B) → EntryAdapter BK BV A B → A × B
pair_of key value x = (key x.key, value x.value)
