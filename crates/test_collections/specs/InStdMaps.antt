-- Lookups in std maps and sets that are values of std maps.
use Rattle.std.specs.Prelude.{ℕ, ◌==◌, Bool, Option}
use Rattle.std.specs.HashMap.{HashMap}
use Rattle.std.specs.HashSet.{HashSet}
use Rattle.std.specs.List.{list_any}
use Rattle.std.specs.Option.{option_and_then, option_map}
use Rattle.rkyv_keys.specs.{first_value}
use Rattle.rkyv_collections.specs.{inner_entries, inner_keys}
use Rattle.rkyv_collections.specs.declared.std_maps.hashed.Hashed.{Hashed}

-- the value under `key` of the map under `outer`
abbrev pub value_under : {S T H G : Type 0} → ℕ → ℕ
    → Hashed (HashMap ℕ (Hashed (HashMap ℕ ℕ S) H) T) G → Option ℕ
value_under outer key maps =
    option_and_then (λ m. first_value (λ other. key == other) (inner_entries m))
    (first_value (λ other. outer == other) (inner_entries maps))

-- the value under `key` of the map in the pair under `outer`
abbrev pub value_beside : {C S T H G : Type 0} → ℕ → ℕ
    → Hashed (HashMap ℕ (C × Hashed (HashMap ℕ ℕ S) H) T) G → Option ℕ
value_beside outer key maps =
    option_and_then (λ pair. first_value (λ other. key == other) (inner_entries pair.1))
    (first_value (λ other. outer == other) (inner_entries maps))

-- whether the set under `outer` has the key `key`
abbrev pub has_under : {S T H G : Type 0} → ℕ → ℕ
    → Hashed (HashMap ℕ (Hashed (HashSet ℕ S) H) T) G → Option Bool
has_under outer key sets =
    option_map (λ s. list_any (λ other. key == other) (inner_keys s))
    (first_value (λ other. outer == other) (inner_entries sets))
