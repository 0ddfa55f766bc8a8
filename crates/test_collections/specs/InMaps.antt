-- Lookups and writes of values in a map in bytes.
use Rattle.std.specs.Prelude.{ℕ, Bool, List, Option}
use Rattle.rkyv_collections.specs.{FindsKeyAt, KeepsMap, MapAt}

-- the property applies to the position of the key that a lookup under `hash` finds, or to `None`.
-- `fits`: the keys that the lookup accepts
abbrev pub FindsIn : MapAt → ℕ → (List ℕ → ℕ → Bool) → (Option ℕ → Type 0) → Type 0
FindsIn m hash fits P = FindsKeyAt m.word m.key m.value m.bytes m.pos hash (fits m.bytes) P

-- the map, after a write of the value in bucket `i`, is a map in `c`
abbrev pub KeepsIn : MapAt → (List ℕ → ℕ → ℕ) → List ℕ → ℕ → Type 0
KeepsIn m key_hash c i = KeepsMap m.word m.key m.value key_hash m.bytes c m.pos i
