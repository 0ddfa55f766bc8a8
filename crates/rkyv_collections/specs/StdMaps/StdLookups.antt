-- Lookups in an archive of a std map or set.
use Rattle.rkyv_base.specs.{ElementMembers, ElementSpec, Format, IsFormat, entry_spec, unit_spec}
use Rattle.rkyv_base.specs.{value_offset}
use Rattle.rkyv_base.specs.declared.element.HasSpec.{Ghosts as Specs}
use Rattle.rkyv_base.specs.declared.width.Word.{Ghosts as Words}
use Rattle.std.specs.Prelude.{◌≡◌, ℕ, ◌+◌, Bool, List, None, Option, Some}
use Rattle.std.specs.HashMap.{HashMap}
use Rattle.std.specs.HashSet.{HashSet}
use Rattle.std.specs.Int.{Width}
use Rattle.std.specs.List.{list_any}
use Rattle.std.specs.Map.{lookup}
use Rattle.std.specs.Option.{is_some}
use Rattle.rkyv_table.specs.{item_found}
use Rattle.rkyv_collections.specs.Map.ListedLookups.{AgreesOnKeys}
use Rattle.rkyv_collections.specs.Map.{map_bytes, map_pos}
use Rattle.rkyv_collections.specs.Map.MapSpec.{map_spec}
use Rattle.rkyv_keys.specs.{Queried}
use Rattle.rkyv_collections.specs.Set.{set_spec}
use Rattle.rkyv_collections.specs.declared.map.ArchivedHashMap.{ArchivedHashMap}
use Rattle.rkyv_collections.specs.StdMaps.StdMap.{inner_entries, inner_keys}
use Rattle.rkyv_collections.specs.declared.std_maps.hashed.Hashed.{Hashed}

-- the value is `offset` bytes behind the position, or there is neither
abbrev pub IsValueBehind : {B : Type 0} → (List ℕ → ℕ → B → Type 0) → List ℕ → ℕ → Option ℕ
    → Option B → Type 0
IsValueBehind value b offset None None = Unit {0}
IsValueBehind value b offset (Some q) (Some x) = value b (q + offset) x
IsValueBehind value b offset None (Some x) = ⊥
IsValueBehind value b offset (Some q) None = ⊥

module _ {Q A : Type 0} (w : Width) (k : ElementSpec) (hash : Q → ℕ)
    (fits : Q → List ℕ → ℕ → Bool) where
  -- The query finds the value of the first entry with an accepted key, in the map at `p`.
  -- It finds none if and only if no entry has one.
  abbrev pub FindsFirstAccepted : {B : Type 0} → ElementSpec → (List ℕ → ℕ → B → Type 0) → List ℕ
      → ℕ → Q → (A → Bool) → List (A × B) → Type 0
  FindsFirstAccepted v value b p q accept_value entries =
      IsValueBehind value b (value_offset k v)
      (item_found w (entry_spec k v).size b p (hash q) (fits q b))
      (lookup accept_value entries)

  module _ (key : List ℕ → ℕ → A → Type 0) where
    -- each query finds in the map at `p` the value that `entries` have
    abbrev pub FindsEntries : {B : Type 0} → ElementSpec → (List ℕ → ℕ → B → Type 0) → List ℕ → ℕ
        → List (A × B) → Type 0
    FindsEntries v value b p entries = (q : Q) (accept_value : A → Bool)
        → AgreesOnKeys k key b (fits q b) accept_value
        → FindsFirstAccepted v value b p q accept_value entries

    -- each query is found in the set at `p` if and only if a key is accepted
    abbrev pub FindsMembers : List ℕ → ℕ → List A → Type 0
    FindsMembers b p keys = (q : Q) (accept_value : A → Bool)
        → AgreesOnKeys k key b (fits q b) accept_value
        → is_some (item_found w (entry_spec k unit_spec).size b p (hash q) (fits q b))
        ≡ list_any accept_value keys

-- The query finds the value of the first entry with an accepted key in the map.
-- It finds none if and only if no entry has one.
abbrev pub FindsFirstAcceptedIn : {A B K V H W Q : Type 0} {ks : Specs K} {vs : Specs V}
    {wt : Words W}
    → ArchivedHashMap K V H W ks vs wt → Queried Q → (List ℕ → ℕ → B → Type 0) → Q → (A → Bool)
    → List (A × B) → Type 0
FindsFirstAcceptedIn {ks = ks} {vs = vs} {wt = wt} m queries value q accept_value entries =
    FindsFirstAccepted wt.word ks.spec queries.hash queries.fits vs.spec value (map_bytes m)
    (map_pos m) q accept_value entries

-- In any archive with the written bytes of a std map, each query finds the value
-- that the map has. `k`, `v`: what represents the keys and the values
abbrev pub FindsInWrittenMap : {A B S H R Q : Type 0} → Width → ElementMembers A
    → ElementMembers B → Queried Q → Format (Hashed (HashMap A B S) H) R → Type 0
FindsInWrittenMap w k v queries f = IsFormat (map_spec w k.spec v.spec)
    (λ b p x. FindsEntries w k.spec queries.hash queries.fits k.represents v.spec v.represents
    b p (inner_entries x))
    f

-- In any archive with the written bytes of a std set, each query is looked up.
-- It is found if and only if the set has an accepted key
abbrev pub FindsInWrittenSet : {A S H R Q : Type 0} → Width → ElementMembers A → Queried Q
    → Format (Hashed (HashSet A S) H) R → Type 0
FindsInWrittenSet w k queries f = IsFormat (set_spec w k.spec)
    (λ b p x. FindsMembers w k.spec queries.hash queries.fits k.represents b p (inner_keys x))
    f
