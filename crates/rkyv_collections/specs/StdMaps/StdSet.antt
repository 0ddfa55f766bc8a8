-- Std sets, as their keys, each with the unit value.
use Rattle.rkyv_base.specs.declared.element.HasSpec.{Ghosts as Specs}
use Rattle.rkyv_base.specs.declared.width.Word.{Ghosts as Words}
use Rattle.std.specs.Prelude.{◌≡◌, ℕ, ◌<◌, ◌⊎◌, Bool, true, List, MatchResult, Result}
use Rattle.std.specs.HashSet.{HashSet, IsUnique, Updates, hash_set_len, hasher_of}
use Rattle.std.specs.List.{All}
use Rattle.std.specs.Int.{Width}
use Rattle.rkyv_base.specs.{AtView, ElementSpec, entry_spec, unit_represents, unit_spec}
use Rattle.rkyv_base.specs.declared.errors.ReadError.{ReadError}
use Rattle.rkyv_base.specs.declared.errors.ReadError.TheVariants.{Memory}
use Rattle.rkyv_base.specs.declared.view.View.{View}
use Rattle.rkyv_keys.specs.{DeserializeErrors, DeserializeMembers, Queried}
use Rattle.rkyv_table.specs.{item_positions, len_at, with_units}
use Rattle.rkyv_collections.specs.Set.{set_bytes, set_pos}
use Rattle.rkyv_collections.specs.StdMaps.StdEquality.{FindsPair}
use Rattle.rkyv_collections.specs.declared.set.ArchivedHashSet.{ArchivedHashSet}
use Rattle.rkyv_collections.specs.StdMaps.StdMap.{AddsKey, EntriesRepresent, ReadInOrderFails}

-- the set at `p` represents a std set: its keys, each with the unit value
abbrev pub StdSetRepresents : {A S : Type 0} → ElementSpec → (List ℕ → ℕ → A → Type 0) → Width
    → (A → A → Bool) → List ℕ → ℕ → HashSet A S → Type 0
StdSetRepresents k key w equal b p s =
    EntriesRepresent k unit_spec key unit_represents w equal b p (with_units s.keys)

-- a key with the property was inserted
abbrev pub InsertsKey : {A S : Type 0} → (A → A → Bool) → (A → Type 0) → HashSet A S → HashSet A S
    → Type 0
InsertsKey {A} equal Fact s n =
    (key : A) × Fact key × Updates equal s n key true × AddsKey equal s.keys n.keys key
    × IsUnique equal n × (hasher_of n ≡ hasher_of s)

-- `e`: error of inserting a key. Memory could not be allocated, or the key has the error
abbrev pub insert_key_fails : DeserializeErrors → DeserializeErrors
insert_key_fails key b q e = (e ≡ Memory) ⊎ key b q e

-- `e`: error of deserializing the set at `p`. It is `Memory`, unless the set is empty, or the error
-- of a key, after all keys before it, in bucket order, were deserialized
abbrev pub std_set_fails : {A : Type 0} → Width → DeserializeMembers A → DeserializeErrors
std_set_fails w k b p e =
    ((e ≡ Memory) × (0 < len_at w b p))
    ⊎ ReadInOrderFails k.represents k.deserialize_fails b
    (item_positions w (entry_spec k.spec unit_spec).size b p) e

-- `result`: std set that the view represents, with the hash state `state`, or an error
abbrev pub ReadsStdSet : {A S T : Type 0} → (List ℕ → ℕ → HashSet A S → Type 0)
    → DeserializeErrors → View T → S → Result (HashSet A S) ReadError → Type 0
ReadsStdSet represents deserialize_fails view state result = MatchResult result
    (λ s. AtView represents view s × (hasher_of s ≡ state)) (AtView deserialize_fails view)

-- the set at `p` has as many keys as the std set, and each of these is found in it
abbrev pub StdSetEquals : {A S : Type 0} → Width → ElementSpec → (A → ℕ) → (A → List ℕ → ℕ → Bool)
    → List ℕ → ℕ → HashSet A S → Type 0
StdSetEquals w k hash fits b p s =
    (len_at w b p ≡ hash_set_len s)
    × All (λ key. FindsPair w k unit_spec hash fits unit_represents b p (key, tt)) s.keys

-- the set equals a std set
abbrev pub StdSetEqualsIn : {A S K H W : Type 0} {ks : Specs K} {wt : Words W}
    → ArchivedHashSet K H W ks wt → Queried A → HashSet A S → Type 0
StdSetEqualsIn {ks = ks} {wt = wt} s q other =
    StdSetEquals wt.word ks.spec q.hash q.fits (set_bytes s) (set_pos s) other
