-- Lookups of keys by a query, and the hashes that they compare.
use Rattle.std.specs.Prelude.{ℕ, Bool, IsSome, IsTrue, List, Option, ◌↔◌}
use Rattle.rkyv_scan.specs.{Hasher, HasherCall, hash_of_calls}
use Rattle.rkyv_keys.specs.Equality.{Comparison}
use Rattle.rkyv_keys.specs.Members.{HasherMembers, KeyMembers, QueryMembers}
use Rattle.rkyv_keys.specs.declared.hash.KeyHash.{Ghosts as Hashes}

-- the hash of the archived key at a position, by a hasher and a type of keys
abbrev pub archived_hash : {State : Type 0} → HasherMembers State → KeyMembers → List ℕ → ℕ → ℕ
archived_hash hasher key b q = hash_of_calls hasher.hasher (key.key_calls b q)

-- the hash of a native key or a query, by a hasher and a type of values
abbrev pub native_hash : {State A : Type 0} → HasherMembers State → Hashes A → A → ℕ
native_hash hasher native value = hash_of_calls hasher.hasher (native.calls value)

-- archived keys. `hash`: hash of the key at a position, `same`: comparison of two keys
pub record ArchivedKeys : Type 0 where
  pub hash : List ℕ → ℕ → ℕ
  pub same : Comparison

-- the archived keys of a type, with their hashes by a hasher
abbrev pub archived_keys : {State : Type 0} → HasherMembers State → KeyMembers → ArchivedKeys
archived_keys hasher key = record { hash = archived_hash hasher key; same = key.same }

-- the hashes of a lookup by a comparison. `hash`: hash of the query, `key_hash`: hash of the key
-- at a position
pub record LookupHashes : Type 0 where
  pub hash : ℕ
  pub key_hash : List ℕ → ℕ → ℕ

-- the hashes of a lookup of the query `q`, by a hasher, a type of keys and a type of queries
abbrev pub lookup_hashes : {State Q : Type 0} → HasherMembers State → KeyMembers → Hashes Q → Q
    → LookupHashes
lookup_hashes hasher key query q =
    record { hash = native_hash hasher query q; key_hash = archived_hash hasher key }

-- A lookup under `hash` of a key that `fits` accepts, among keys with the hashes `key_hash`
-- that are equal by `same`. The functions are by the bytes and the position of a key
pub record KeyLookup : Type 0 where
  pub hash : ℕ
  pub key_hash : List ℕ → ℕ → ℕ
  pub same : Comparison
  pub fits : List ℕ → ℕ → Bool

-- the lookup of the query `q`, by a hasher, a type of keys and a type of queries
abbrev pub lookup_of : {State Q : Type 0} → HasherMembers State → KeyMembers → QueryMembers Q → Q
    → KeyLookup
lookup_of hasher key query q = record {
  hash = hash_of_calls hasher.hasher (query.calls q);
  key_hash = archived_hash hasher key;
  same = key.same;
  fits = query.fits q;
}

-- the lookup by a query that fits `fits` and makes the hasher calls `calls`. The keys make
-- `key_calls`, and are equal by `same`
abbrev pub query_of : {State : Type 0} → Hasher State → (List ℕ → ℕ → List HasherCall) → Comparison
    → List HasherCall → (List ℕ → ℕ → Bool) → KeyLookup
query_of hasher key_calls same calls fits = record {
  hash = hash_of_calls hasher calls;
  key_hash = λ b q. hash_of_calls hasher (key_calls b q);
  same = same;
  fits = fits;
}

-- the result is `true` if and only if a key is found. `found`: its position or its index
abbrev pub IsFoundAt : Bool → Option ℕ → Type 0
IsFoundAt result found = IsTrue result ↔ IsSome found
