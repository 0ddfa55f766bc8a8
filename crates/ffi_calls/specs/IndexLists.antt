-- Index maps that represent lists of pairs, in terms of only the lists.
use Rattle.std.specs.Prelude.{◌≡◌, ℕ, ◌+◌, ◌-◌, ◌<◌, List, MatchOption, None, Option, Some, length}
use Rattle.std.specs.Prelude.{min, slice_get}
use Rattle.rkyv_keys.specs.{NativePairs}
use Rattle.rkyv_collections.specs.{MapAt, ValueQuery}
use Rattle.rkyv_index.specs.{IndexRepresents, IsFirst}
use Rattle.ffi_calls.specs.Lists.{query_pairs}
use Rattle.ffi_calls.specs.declared.any_value.AnyItem.{AnyItem}
use Rattle.ffi_calls.specs.declared.any_value.AnyValue.{AnyValue}
use Rattle.ffi_calls.specs.declared.any_value.IndexedValue.{IndexedValue}

-- the index map represents the pairs, in this order, under the load factor
abbrev pub IndexRepresentsPairs : {A N : Type 0} → MapAt → NativePairs A N → ℕ × ℕ → List (A × N)
    → Type 0
IndexRepresentsPairs m native factor pairs =
    IndexRepresents m.word m.key m.value native.key native.value native.key_hash factor m.bytes
    m.pos pairs

-- the pair at index `i` of a list has the value of `stored`, by `is_of`
abbrev pub HasValueAt : {A B : Type 0} → (AnyValue → B → Type 0) → List (A × B) → ℕ → AnyValue
    → Type 0
HasValueAt {A} {B} is_of pairs i stored =
    (pair : A × B) × (slice_get pairs i ≡ Some pair) × is_of stored pair.1

-- In an index map of a list, `result` has the index and the value of the first pair whose key is
-- accepted. Without one it is `None`. `is_of`: a stored value is of a native one
abbrev pub FindsFirstIndexed : {A B : Type 0} → MapAt → ValueQuery A
    → (List ℕ → ℕ → B → Type 0) → (AnyValue → B → Type 0) → Option IndexedValue → Type 0
FindsFirstIndexed {A} {B} m a value is_of result = (factor : ℕ × ℕ) (pairs : List (A × B))
    → IndexRepresentsPairs m (query_pairs m a value) factor pairs
    → MatchOption result (IsFirst a.accept_value pairs None) (λ found.
    IsFirst a.accept_value pairs (Some found.index)
    × HasValueAt is_of pairs found.index found.value)

-- `after` begins with the pairs from index `from` of the list on, at most as many as `before` has,
-- and `count` is their number. `key` and `value`: a stored key or value is of a native one
abbrev pub StoresListed : {A B : Type 0} → MapAt → NativePairs A B → (AnyValue → A → Type 0)
    → (AnyValue → B → Type 0) → ℕ → List AnyItem → ℕ → List AnyItem → Type 0
StoresListed {A} {B} m native key value from before count after =
    (factor : ℕ × ℕ) (pairs : List (A × B)) → IndexRepresentsPairs m native factor pairs
    → (count ≡ min (length before) (length pairs - from))
    × ((i : ℕ) (pair : A × B) (item : AnyItem) → i < count → slice_get after i ≡ Some item
    → slice_get pairs (from + i) ≡ Some pair → key item.key pair.0 × value item.value pair.1)
