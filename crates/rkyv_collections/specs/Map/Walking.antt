-- Walks over the pairs of a map.
use Rattle.rkyv_base.specs.declared.element.HasSpec.{Ghosts as Specs}
use Rattle.rkyv_base.specs.declared.width.Word.{Ghosts as Words}
use Rattle.std.specs.Prelude.{◌≡◌, length}
use Rattle.rkyv_table.specs.{ItemsLeft}
use Rattle.rkyv_collections.specs.Map.{key_positions, map_archive, map_len}
use Rattle.rkyv_collections.specs.declared.map.ArchivedHashMap.{ArchivedHashMap}

-- `left`: all pairs of the map `m`, in bucket order
abbrev pub WalksAll : {K V H W : Type 0} {ks : Specs K} {vs : Specs V} {wt : Words W}
    → ArchivedHashMap K V H W ks vs wt → ItemsLeft → Type 0
WalksAll m left = (left.archive ≡ map_archive m) × (left.positions ≡ key_positions m)
    × (length left.positions ≡ map_len m)
