-- Archives that were written from a std map or set, as archives of the list of its entries.
use Rattle.rkyv_base.specs.{ElementMembers, ElementSpec, Format, IsFormat, IsValidArchive}
use Rattle.rkyv_base.specs.{RootBytes, narrow_limit, wide_limit}
use Rattle.std.specs.Prelude.{ℕ, ◌-◌, List, length}
use Rattle.std.specs.HashMap.{HashMap}
use Rattle.std.specs.HashSet.{HashSet}
use Rattle.std.specs.Int.{Width}
use Rattle.rkyv_collections.specs.Map.MapFormat.{MapRepresents}
use Rattle.rkyv_collections.specs.Map.MapSpec.{map_spec}
use Rattle.rkyv_collections.specs.Set.{set_spec}
use Rattle.rkyv_collections.specs.Set.SetFormat.{SetRepresents}
use Rattle.rkyv_collections.specs.StdMaps.StdMap.{inner_entries, inner_keys}
use Rattle.rkyv_collections.specs.declared.std_maps.hashed.Hashed.{Hashed}

-- `b`: archive within `limit` with the written bytes of the native value, and no others.
-- `element`: element of its root, `format`: format of the native value
pub record IsWrittenArchive {V R : Type 0} (limit : ℕ) (element : ElementMembers V)
    (format : Format V R) (b : List ℕ) (value : V) : Type 0 where
  pub accepted : IsValidArchive limit element.spec b
  pub bytes : RootBytes element.spec.align format value 0 b (length b - element.spec.size)

-- `b`: narrow archive with the written bytes of the native value, and no others
abbrev pub IsNarrowWritten : {V R : Type 0} → ElementMembers V → Format V R → List ℕ → V → Type 0
IsNarrowWritten element format b value = IsWrittenArchive narrow_limit element format b value

-- `b`: wide archive with the written bytes of the native value, and no others
abbrev pub IsWideWritten : {V R : Type 0} → ElementMembers V → Format V R → List ℕ → V → Type 0
IsWideWritten element format b value = IsWrittenArchive wide_limit element format b value

-- The root of an archive with the written bytes of a value has the relation `related` to it.
-- `s`: element of the root
abbrev pub WrittenRootsAre : {V R : Type 0} → ElementSpec → (List ℕ → ℕ → V → Type 0)
    → Format V R → Type 0
WrittenRootsAre {V} s related format =
    (b : List ℕ) (x : V) → RootBytes s.align format x 0 b (length b - s.size)
    → related b (length b - s.size) x

-- the element, whose values have the relation `related` to the native values
abbrev pub with_relation : {B C : Type 0} → ElementMembers B → (List ℕ → ℕ → C → Type 0)
    → ElementMembers C
with_relation v related = record { spec = v.spec; laws = v.laws; represents = related }

-- the map at `p` represents the list of the entries of a std map, under the load factor 7 / 8
abbrev pub IsListOfEntries : {A B S H : Type 0} → Width → ElementMembers A → ElementMembers B
    → (List ℕ → ℕ → ℕ) → List ℕ → ℕ → Hashed (HashMap A B S) H → Type 0
IsListOfEntries w k v hash b p x =
    MapRepresents w k.spec v.spec k.represents v.represents hash (7, 8) b p (inner_entries x)

-- the same for entries whose values have the relation `related`
abbrev pub IsListOfRelated : {A B C S H : Type 0} → Width → ElementMembers A → ElementMembers B
    → (List ℕ → ℕ → C → Type 0) → (List ℕ → ℕ → ℕ) → List ℕ → ℕ → Hashed (HashMap A C S) H → Type 0
IsListOfRelated w k v related hash b p x =
    IsListOfEntries w k (with_relation v related) hash b p x

-- the set at `p` represents the list of the keys of a std set, under the load factor 7 / 8
abbrev pub IsListOfKeys : {A S H : Type 0} → Width → ElementMembers A → (List ℕ → ℕ → ℕ)
    → List ℕ → ℕ → Hashed (HashSet A S) H → Type 0
IsListOfKeys w k hash b p x =
    SetRepresents w k.spec k.represents hash (7, 8) b p (inner_keys x)

-- The root of an archive with the written bytes of a std map represents the list of its entries.
-- `k`, `v`: its keys and values, `hash`: hash of the key at a position
abbrev pub WrittenMapsAreLists : {A B S H R : Type 0} → Width → ElementMembers A
    → ElementMembers B → (List ℕ → ℕ → ℕ) → Format (Hashed (HashMap A B S) H) R → Type 0
WrittenMapsAreLists w k v hash format =
    WrittenRootsAre (map_spec w k.spec v.spec) (IsListOfEntries w k v hash) format

-- The root of an archive with the written bytes of a std set represents the list of its keys.
-- `k`: its keys, `hash`: hash of the key at a position
abbrev pub WrittenSetsAreLists : {A S H R : Type 0} → Width → ElementMembers A → (List ℕ → ℕ → ℕ)
    → Format (Hashed (HashSet A S) H) R → Type 0
WrittenSetsAreLists w k hash format =
    WrittenRootsAre (set_spec w k.spec) (IsListOfKeys w k hash) format

-- In any archive with the written bytes of a std map, the map represents the list
-- of its entries, whose values have the relation `related`. `k`, `v`: its keys and values,
-- `hash`: hash of the key at a position
abbrev pub WrittenMapsListEntries : {A B C S H R : Type 0} → Width → ElementMembers A
    → ElementMembers B → (List ℕ → ℕ → C → Type 0) → (List ℕ → ℕ → ℕ)
    → Format (Hashed (HashMap A C S) H) R → Type 0
WrittenMapsListEntries w k v related hash format =
    IsFormat (map_spec w k.spec v.spec) (IsListOfRelated w k v related hash) format
