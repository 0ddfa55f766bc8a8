use Rattle.std.proofs.Common.{◌≡◌, ◌≤◌, length, vec_capacity}
use Rattle.rkyv_index.specs.{AreItemsRead, index_len, keys_of}
use Rattle.rkyv_index.proofs.set.ArchivedIndexSet.deserialize_items.Given as goal

-- the list has the keys at the indices below `index`, deserialized, and room for all
abbrev pub invariant-loop-index : goal.invariant-loop-index
invariant-loop-index g l =
    (length l.list.items ≡ l.index)
    × AreItemsRead g.K.Represents.represents l.self l.list.items
    × (index_len (keys_of l.self) ≤ vec_capacity l.list)
