-- Lemmas: a hash map is an element.
use Rattle.std.specs.Int.{Width}
use Rattle.rkyv_base.specs.{ElementSpec, IsArchiveWord, IsElement, entry_spec}
use Rattle.rkyv_base.specs.Lemmas.Entry.{entry_element}
use Rattle.rkyv_table.specs.Lemmas.TableLaws.{table_element}
use Rattle.rkyv_collections.specs.Map.MapSpec.{map_spec}

pub map_element : (w : Width) → IsArchiveWord w → (k v : ElementSpec) → IsElement k → IsElement v
    → IsElement (map_spec w k v)
map_element w kind k v kl vl = table_element w kind (entry_spec k v) (entry_element k v kl vl)
