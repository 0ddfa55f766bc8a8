-- The parts of the lists that are archived as maps and sets.
use Rattle.std.specs.Prelude.{Bool, List, ℕ, ◌&&◌, ◌==◌}
use Rattle.rkyv_collections.specs.declared.lists.items.SetItems.{SetItems}
use Rattle.rkyv_collections.specs.declared.lists.pairs.MapPairs.{MapPairs}

module _ {A B H : Type 0} where
  -- the pairs of the list, in order
  abbrev pub listed_pairs : MapPairs A B H → List (A × B)
  listed_pairs list = list.pairs.now

  -- the load factor of the list
  abbrev pub pairs_load_factor : MapPairs A B H → ℕ × ℕ
  pairs_load_factor list = list.load_factor

module _ {A H : Type 0} where
  -- the items of the list, in order
  abbrev pub listed_items : SetItems A H → List A
  listed_items list = list.items.now

  -- the load factor of the list
  abbrev pub items_load_factor : SetItems A H → ℕ × ℕ
  items_load_factor list = list.load_factor

-- two load factors have the same parts
abbrev pub same_load_factor : ℕ × ℕ → ℕ × ℕ → Bool
same_load_factor f g = (f.0 == g.0) && (f.1 == g.1)
