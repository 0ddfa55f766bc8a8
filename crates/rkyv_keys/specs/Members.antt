-- The ghost members of bounds, as clauses name them: of a hasher, of a key and of a query.
use Rattle.std.specs.Prelude.{ℕ, Bool, List}
use Rattle.rkyv_scan.specs.{Hasher, HasherCall}
use Rattle.rkyv_base.specs.{ElementSpec, IsElement}
use Rattle.rkyv_keys.specs.Equality.{Comparison}

-- the members of a `KeyHasher`
abbrev pub HasherMembers : Type 0 → Type 1
HasherMembers State = record {
  is_default : State → Type 0;
  hasher : Hasher State;
}

-- the members of a `KeyElement`
abbrev pub KeyMembers : Type 1
KeyMembers = record {
  spec : ElementSpec;
  laws : IsElement spec;
  same : Comparison;
  key_calls : List ℕ → ℕ → List HasherCall;
}

-- the members of a `Query`
abbrev pub QueryMembers : Type 0 → Type 0
QueryMembers Q = record {
  calls : Q → List HasherCall;
  fits : Q → List ℕ → ℕ → Bool;
}
