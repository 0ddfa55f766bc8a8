-- The format of the pairs of a map: a table of entries, each under the hash of its key.
use Rattle.std.specs.Prelude.{◌≡◌, ℕ, List, length, map, slice_get, slice_index, Some}
use Rattle.std.specs.Int.{Width}
use Rattle.rkyv_base.specs.{ElementSpec, Format, IsFormat, PairRepresents, entry_spec, pair_format}
use Rattle.rkyv_base.specs.{written_as}
use Rattle.rkyv_table.specs.{TableResolver, cap_at, capacity, home_positions, len_at, table_format}
use Rattle.rkyv_collections.specs.Map.{MapWrittenAt}
use Rattle.rkyv_collections.specs.Map.MapSpec.{map_spec}
use Rattle.rkyv_keys.specs.{NativePairs, PairFormat}

-- the pairs, each with the hash of its key
abbrev pub keyed : {A B : Type 0} → (A → ℕ) → List (A × B) → List (ℕ × (A × B))
keyed hash pairs = map (λ pair. (hash pair.0, pair)) pairs

-- the format of a list of pairs, in insertion order, as a map under a load factor
abbrev pub map_format : {A B R Q : Type 0} → Width → ElementSpec → ElementSpec → Format A R
    → Format B Q
    → (A → ℕ) → ℕ × ℕ → Format (List (A × B)) TableResolver
map_format w k v key value hash load_factor =
    written_as (keyed hash)
    (table_format w (entry_spec k v) (pair_format k v key value) load_factor)

-- The map at `p` represents the pairs. It was written from them in this order,
-- under the hashes of their keys, and each pair is in its home bucket. `hash b q`: hash of the key
-- at `q`
pub record MapRepresents {A B : Type 0} (w : Width) (k v : ElementSpec) (key : List ℕ → ℕ → A
    → Type 0) (value : List ℕ → ℕ → B → Type 0) (hash : List ℕ → ℕ → ℕ) (load_factor : ℕ × ℕ)
    (b : List ℕ) (p : ℕ) (pairs : List (A × B)) : Type 0 where
  pub homes : List ℕ
  pub written : MapWrittenAt w (entry_spec k v) hash b p homes
  pub len : len_at w b p ≡ length pairs
  pub cap : cap_at w b p ≡ capacity (length pairs) load_factor
  pub at : (i : ℕ) (pair : A × B) → slice_get pairs i ≡ Some pair
      → PairRepresents k v key value b
      (slice_index (home_positions w (entry_spec k v).size b p homes) i) pair

-- in any archive with the written bytes of a map and its header, the map represents the pairs,
-- under each load factor. `format`: how its pairs are written, `native`: what represents them
abbrev pub WrittenMapsRepresent : {A B R Q : Type 0} → Width → PairFormat A B R Q → NativePairs A B
    → Type 0
WrittenMapsRepresent w format native =
    (load_factor : ℕ × ℕ)
    → IsFormat (map_spec w format.key_spec format.value_spec)
    (MapRepresents w format.key_spec format.value_spec native.key native.value
    native.key_hash load_factor)
    (map_format w format.key_spec format.value_spec format.key format.value format.hash
    load_factor)
