-- The native keys and pairs that a map represents.
use Rattle.std.specs.Prelude.{ℕ, Bool, List}
use Rattle.rkyv_scan.specs.{Hasher, HasherCall, hash_of_calls}

-- the native pairs of a map. `key` and `value`: bytes at a position represent a key or a value,
-- `key_hash`: hash of the key at a position
pub record NativePairs (A B : Type 0) : Type 1 where
  pub key : List ℕ → ℕ → A → Type 0
  pub value : List ℕ → ℕ → B → Type 0
  pub key_hash : List ℕ → ℕ → ℕ

-- the native pairs of a map with a hasher, whose keys have the hasher calls `key_calls`
abbrev pub native_pairs : {State A B : Type 0} → (List ℕ → ℕ → A → Type 0)
    → (List ℕ → ℕ → B → Type 0) → Hasher State → (List ℕ → ℕ → List HasherCall) → NativePairs A B
native_pairs key value hasher key_calls = record {
  key = key;
  value = value;
  key_hash = λ b q. hash_of_calls hasher (key_calls b q);
}

-- the native keys of a map, and its queries. `represents`: bytes at a position represent a key,
-- `key_hash`: hash of the key at a position, `fits`: a query fits the key at a position,
-- `equal`: a query equals a native key
pub record NativeKeys (A Q : Type 0) : Type 1 where
  pub represents : List ℕ → ℕ → A → Type 0
  pub key_hash : List ℕ → ℕ → ℕ
  pub fits : Q → List ℕ → ℕ → Bool
  pub equal : Q → A → Bool

-- the native keys of a map under the hashes `key_hash`
abbrev pub native_keys : {A Q : Type 0} → (List ℕ → ℕ → A → Type 0) → (List ℕ → ℕ → ℕ)
    → (Q → List ℕ → ℕ → Bool) → (Q → A → Bool) → NativeKeys A Q
native_keys represents key_hash fits equal =
    record { represents = represents; key_hash = key_hash; fits = fits; equal = equal }
