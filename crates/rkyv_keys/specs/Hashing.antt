-- The hasher calls of the types whose implementations are here.
use Rattle.std.specs.Prelude.{◌≡◌, List}
use Rattle.rkyv_keys.specs.declared.hash.KeyHash.{Ghosts as Hashes}
use Rattle.rkyv_scan.specs.{HasherCall}

-- each value is hashed by these calls
abbrev pub HashesBy : {A : Type 0} → Hashes A → (A → List HasherCall) → Type 0
HashesBy hashes calls = (value : _) → hashes.calls value ≡ calls value
