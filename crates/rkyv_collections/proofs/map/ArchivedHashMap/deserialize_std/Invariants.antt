use Rattle.std.proofs.Common.{◌≡◌}
use Rattle.std.specs.HashMap.{IsUnique, get, hasher_of, keys}
use Rattle.rkyv_collections.specs.{map_archive, map_pos}
use Rattle.rkyv_collections.proofs.StdReading.{WalksOn}
use Rattle.rkyv_collections.proofs.map.ArchivedHashMap.deserialize_std.Given as goal

-- the pairs before those that remain were inserted in order
abbrev pub invariant-loop-key : goal.invariant-loop-key
invariant-loop-key g l =
    WalksOn g.W.Word.word g.K.HasSpec.spec g.V.HasSpec.spec g.K.Represents.represents g.V.Represents.represents g.A.PartialEq.eq
    (map_archive l.self) (map_pos l.self) l.key-iterator (get g.A.PartialEq.eq l.map) (keys l.map)
    × IsUnique g.A.PartialEq.eq l.map
    × (hasher_of l.map ≡ hasher_of l.initial.map)
