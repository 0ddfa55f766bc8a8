-- Entries, by their key and their value.
use Rattle.std.specs.Prelude.{ℕ, ◌+◌, ◌⊎◌, Bool, ◌&&◌, List, ◌++◌}
use Rattle.rkyv_scan.specs.{HasherCall}
use Rattle.rkyv_base.specs.{ElementSpec, value_offset}
use Rattle.rkyv_keys.specs.Equality.{Comparison}
use Rattle.rkyv_keys.specs.Deserialize.{DeserializeErrors, DeserializeMembers}

module _ (k v : ElementSpec) where
  -- both the keys and the values are the same
  abbrev pub entry_same : Comparison → Comparison → Comparison
  entry_same key value b p c q = key b p c q
      && value b (p + value_offset k v) c (q + value_offset k v)

  -- the calls of the key, followed by those of the value
  abbrev pub entry_calls : (List ℕ → ℕ → List HasherCall) → (List ℕ → ℕ → List HasherCall) → List ℕ
      → ℕ → List HasherCall
  entry_calls key value b p = key b p ++ value b (p + value_offset k v)

  -- each part of the pair fits its part of the entry
  abbrev pub entry_fits : {A B : Type 0} → (A → List ℕ → ℕ → Bool) → (B → List ℕ → ℕ → Bool) → A × B
      → List ℕ → ℕ → Bool
  entry_fits key value q b p = key q.0 b p && value q.1 b (p + value_offset k v)

  -- each part of the entry equals its part of the pair
  abbrev pub entry_equals : {A B : Type 0} → (List ℕ → ℕ → A → Type 0) → (List ℕ → ℕ → B → Type 0)
      → List ℕ → ℕ → A × B → Type 0
  entry_equals key value b p pair = key b p pair.0 × value b (p + value_offset k v) pair.1

-- `e`: error of the key, or, if the key's bytes represent a value, error of the value
abbrev pub entry_deserialize_fails : {A B : Type 0} → DeserializeMembers A → DeserializeMembers B
    → DeserializeErrors
entry_deserialize_fails {A} k v b p e =
    k.deserialize_fails b p e
    ⊎ ((key : A) × k.represents b p key
    × v.deserialize_fails b (p + value_offset k.spec v.spec) e)

-- the calls of both parts of a pair
abbrev pub pair_calls : {A B : Type 0} → (A → List HasherCall) → (B → List HasherCall) → A × B
    → List HasherCall
pair_calls first second q = first q.0 ++ second q.1
