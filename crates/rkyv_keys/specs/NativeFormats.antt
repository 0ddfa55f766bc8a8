-- The formats of native keys and pairs, and the hashes of queries.
use Rattle.std.specs.Prelude.{ℕ, Bool, List}
use Rattle.rkyv_scan.specs.{Hasher, HasherCall, fx_hasher, hash_of_calls, low_halves}
use Rattle.rkyv_base.specs.{ElementSpec, Format}
use Rattle.rkyv_keys.specs.Members.{HasherMembers, QueryMembers}

-- how native keys are written. `spec`: spec of their elements, `format`: their format,
-- `hash`: hash of a native key
pub record KeyFormat (A R : Type 0) : Type 1 where
  pub spec : ElementSpec
  pub format : Format A R
  pub hash : A → ℕ

-- the format of keys with the hasher calls `calls`
abbrev pub native_key_format : {State A R : Type 0} → ElementSpec → Format A R → Hasher State
    → (A → List HasherCall) → KeyFormat A R
native_key_format spec format hasher calls = record {
  spec = spec;
  format = format;
  hash = λ key. hash_of_calls hasher (calls key);
}

-- the same under the hasher `FxHasher64`
abbrev pub fx_key_format : {A R : Type 0} → ElementSpec → Format A R → (A → List HasherCall)
    → KeyFormat A R
fx_key_format spec format calls = native_key_format spec format (fx_hasher low_halves) calls

-- how native pairs are written. `key_spec` and `value_spec`: specs of their elements,
-- `key` and `value`: their formats, `hash`: hash of a native key
pub record PairFormat (A B R Q : Type 0) : Type 1 where
  pub key_spec : ElementSpec
  pub value_spec : ElementSpec
  pub key : Format A R
  pub value : Format B Q
  pub hash : A → ℕ

-- the format of pairs of keys with the hasher calls `calls`
abbrev pub native_format : {State A B R Q : Type 0} → ElementSpec → ElementSpec → Format A R
    → Format B Q
    → Hasher State → (A → List HasherCall) → PairFormat A B R Q
native_format key_spec value_spec key value hasher calls = record {
  key_spec = key_spec;
  value_spec = value_spec;
  key = key;
  value = value;
  hash = λ a. hash_of_calls hasher (calls a);
}

-- the same under the hasher `FxHasher64`
abbrev pub fx_format : {A B R Q : Type 0} → ElementSpec → ElementSpec → Format A R → Format B Q
    → (A → List HasherCall) → PairFormat A B R Q
fx_format key_spec value_spec key value calls =
    native_format key_spec value_spec key value (fx_hasher low_halves) calls

-- queries. `hash`: hash of a query, `fits`: a query fits the key at a position
pub record Queried (Q : Type 0) : Type 0 where
  pub hash : Q → ℕ
  pub fits : Q → List ℕ → ℕ → Bool

-- the queries with the hasher calls `calls`
abbrev pub queried : {State Q : Type 0} → Hasher State → (Q → List HasherCall)
    → (Q → List ℕ → ℕ → Bool) → Queried Q
queried hasher calls fits =
    record { hash = λ query. hash_of_calls hasher (calls query); fits = fits }

-- the queries of a type, by a hasher
abbrev pub queries_of : {State Q : Type 0} → HasherMembers State → QueryMembers Q → Queried Q
queries_of hasher query = queried hasher.hasher query.calls query.fits
