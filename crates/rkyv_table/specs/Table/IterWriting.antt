-- The items of an iterator that are to be written, and the result of writing them.
use Rattle.std.specs.Prelude.{ℕ, List, Result}
use Rattle.std.specs.declared.iter.Iterator.{Ghosts as Iterators}
use Rattle.rkyv_base.specs.{Format, Output, WidthMembers, written_as}
use Rattle.rkyv_base.specs.declared.errors.WriteError.{WriteError}
use Rattle.rkyv_base.specs.declared.lend.Lend.{Ghosts as Lends}
use Rattle.rkyv_table.specs.Table.Input.{Input, from_iter}
use Rattle.rkyv_table.specs.Table.ItemValues.{key_values, pair_values}
use Rattle.rkyv_table.specs.Table.Serializing.{WritesItems}

-- items to be written. `input`: the items, `lent`: the values that their `Lend` borrows from them,
-- `len`: their claimed number, `load_factor`: the load factor
pub record ItemsToWrite (X Y : Type 0) : Type 1 where
  pub input : Input X
  pub lent : List X → List Y
  pub len : ℕ
  pub load_factor : ℕ × ℕ

-- pairs of an iterator, whose keys and values are borrowed. `len`: their claimed number
abbrev pub pairs_in : {BK BV A B S : Type 0} → Lends BK A → Lends BV B → Iterators S (BK × BV) → S
    → ℕ → ℕ × ℕ → ItemsToWrite (BK × BV) (A × B)
pairs_in key value steps iter len load_factor = record {
  input = from_iter steps.next_gives iter;
  lent = pair_values key.lent value.lent;
  len = len;
  load_factor = load_factor;
}

-- items of an iterator, whose keys are borrowed. `len`: their claimed number
abbrev pub keys_in : {BK A S : Type 0} → Lends BK A → Iterators S BK → S → ℕ → ℕ × ℕ
    → ItemsToWrite BK A
keys_in key steps iter len load_factor = record {
  input = from_iter steps.next_gives iter;
  lent = key_values key.lent;
  len = len;
  load_factor = load_factor;
}

-- the items are written in the format under their load factor. The result is a resolver,
-- or an error
abbrev pub WritesInFormat : {F X Y R : Type 0} → WidthMembers → (ℕ × ℕ → Format (List Y) R)
    → ItemsToWrite X Y → Output → Output → Result R (WriteError F) → Type 0
WritesInFormat width format items o o' result =
    WritesItems items.input items.len items.load_factor width.MAX_CAPACITY width.LIMIT
    (written_as items.lent (format items.load_factor)) o o' result
