use Rattle.std.proofs.Common.{◌≡◌, ◌≤◌, length, vec_capacity}
use Rattle.rkyv_index.specs.{ArePairsRead, index_len}
use Rattle.rkyv_index.proofs.map.ArchivedIndexMap.deserialize_pairs.Given as goal

-- the list has the pairs at the indices below `index`, deserialized, and room for all
abbrev pub invariant-loop-index : goal.invariant-loop-index
invariant-loop-index g l =
    (length l.list.items ≡ l.index)
    × ArePairsRead g.K.Represents.represents g.V.Represents.represents l.self l.list.items
    × (index_len l.self ≤ vec_capacity l.list)
