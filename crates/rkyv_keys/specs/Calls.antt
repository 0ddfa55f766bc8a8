-- The calls of a key to a hasher, and its hash.
use Rattle.std.specs.Prelude.{ℕ, Bool, if◌then◌else◌, List, [], ◌∷◌, fold}
use Rattle.rkyv_scan.specs.{Bytes, Hasher, HasherCall, SizeWords, U8, fx_hash, hash_of_calls}

-- the state `state` after a list of calls, in order
abbrev pub after_calls : {State : Type 0} → Hasher State → State → List HasherCall → State
after_calls hasher state calls = fold hasher.feed state calls

-- the bytes of a text, followed by the byte 255, which is in no text
abbrev pub text_calls : List ℕ → List HasherCall
text_calls bytes = Bytes bytes ∷ U8 255 ∷ []

-- 0 or 1, as one byte
abbrev pub bool_call : Bool → HasherCall
bool_call value = U8 (if value then 1 else 0)

-- the hash of a value, whose hasher calls are `calls value`
abbrev pub hash_of : {State A : Type 0} → Hasher State → (A → List HasherCall) → A → ℕ
hash_of hasher calls value = hash_of_calls hasher (calls value)

-- the hash of the key at `q` of `b`, whose hasher calls are `calls b q`
abbrev pub hash_at : {State : Type 0} → Hasher State → (List ℕ → ℕ → List HasherCall) → List ℕ → ℕ
    → ℕ
hash_at hasher calls b q = hash_of_calls hasher (calls b q)

-- the same by `FxHasher64` or `FxHasher64Wide`, whose rules for `usize` and `isize` are `sizes`
abbrev pub fx_hash_at : SizeWords → (List ℕ → ℕ → List HasherCall) → List ℕ → ℕ → ℕ
fx_hash_at sizes calls b q = fx_hash sizes (calls b q)
