use Rattle.std.proofs.Common.{◌≡◌}
use Rattle.std.specs.HashSet.{IsUnique, hasher_of}
use Rattle.rkyv_base.specs.{unit_represents, unit_spec}
use Rattle.rkyv_collections.specs.{set_archive, set_pos}
use Rattle.rkyv_collections.proofs.StdReading.{WalksOn, found_units}
use Rattle.rkyv_collections.proofs.set.ArchivedHashSet.deserialize_std.Given as goal

-- the keys before those that remain were inserted in order
abbrev pub invariant-loop-key : goal.invariant-loop-key
invariant-loop-key g l =
    WalksOn g.W.Word.word g.K.HasSpec.spec unit_spec g.K.Represents.represents unit_represents g.A.PartialEq.eq (set_archive l.self) (set_pos l.self) l.key-iterator (found_units g.A.PartialEq.eq l.set.keys) l.set.keys
    × IsUnique g.A.PartialEq.eq l.set
    × (hasher_of l.set ≡ hasher_of l.initial.set)
