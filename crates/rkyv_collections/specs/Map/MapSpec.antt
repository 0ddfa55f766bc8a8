-- The bytes of a hash map, as an element.
use Rattle.std.specs.Prelude.{ℕ, List}
use Rattle.std.specs.Int.{Width}
use Rattle.rkyv_base.specs.{ElementSpec, entry_spec}
use Rattle.rkyv_table.specs.{HasItemAt, table_spec}

-- the element of a map: the header of a table of its entries
abbrev pub map_spec : Width → ElementSpec → ElementSpec → ElementSpec
map_spec w k v = table_spec w (entry_spec k v)

-- the map at `p` has a key at `q`
abbrev pub IsKeyPosAt : Width → ElementSpec → ElementSpec → List ℕ → ℕ → ℕ → Type 0
IsKeyPosAt w k v b p q = HasItemAt w (entry_spec k v).size b p q
