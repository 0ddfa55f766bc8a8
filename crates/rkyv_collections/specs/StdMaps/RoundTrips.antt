-- The value of an archive, and its root.
use Rattle.std.specs.Prelude.{◌≡◌, ℕ, ◌-◌, Bool, List, length, true}
use Rattle.std.specs.HashMap.{HashMap}
use Rattle.std.specs.HashSet.{HashSet}
use Rattle.std.specs.Int.{Width}
use Rattle.rkyv_base.specs.{ArchiveOf, ElementSpec, Format, IsFormat}
use Rattle.rkyv_keys.specs.{Queried}
use Rattle.rkyv_collections.specs.Map.MapSpec.{map_spec}
use Rattle.rkyv_collections.specs.Set.{set_spec}
use Rattle.rkyv_collections.specs.StdMaps.StdEquality.{StdMapEquals}
use Rattle.rkyv_collections.specs.StdMaps.StdSet.{StdSetEquals}
use Rattle.rkyv_collections.specs.declared.std_maps.hashed.Hashed.{Hashed}

-- the root of the archive of a value equals the value, and each value that the root
-- represents is equal to it
abbrev pub ArchivesRoundTrip : {V R : Type 0} → ℕ → ElementSpec → (List ℕ → ℕ → V → Type 0)
    → (List ℕ → ℕ → V → Type 0) → Format V R → (V → V → Bool) → Type 0
ArchivesRoundTrip {V} limit s represents equals format equal =
    (value : V) (b : List ℕ) → ArchiveOf limit s represents format value b
    → equals b (length b - s.size) value
    × ((back : V) → represents b (length b - s.size) back → equal back value ≡ true)

-- in any archive with the written bytes of a std map, the archived map equals it
abbrev pub WrittenMapsAreEqual : {A B S H R : Type 0} → Width → ElementSpec → ElementSpec
    → Queried A → (List ℕ → ℕ → B → Type 0) → Format (Hashed (HashMap A B S) H) R → Type 0
WrittenMapsAreEqual w k v queries equals f = IsFormat (map_spec w k v)
    (λ b p x. StdMapEquals w k v queries.hash queries.fits equals b p x.map) f

-- in any archive with the written bytes of a std set, the archived set equals it
abbrev pub WrittenSetsAreEqual : {A S H R : Type 0} → Width → ElementSpec → Queried A
    → Format (Hashed (HashSet A S) H) R → Type 0
WrittenSetsAreEqual w k queries f = IsFormat (set_spec w k)
    (λ b p x. StdSetEquals w k queries.hash queries.fits b p x.map) f
