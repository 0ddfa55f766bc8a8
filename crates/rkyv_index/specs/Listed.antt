-- The lists that index maps and index sets represent, and the formats of values that have such
-- a list. `OrderedPairs` and `OrderedItems` have `FxHasher64` and the load factor 7 / 8.
use Rattle.std.specs.Prelude.{ℕ, List}
use Rattle.std.specs.Int.{Width}
use Rattle.rkyv_base.specs.{ElementMembers, Format, SameFormat, WidthMembers, written_as}
use Rattle.rkyv_scan.specs.{HasherCall, fx_hasher, low_halves}
use Rattle.rkyv_keys.specs.{KeyFormat, PairFormat, hash_at}
use Rattle.rkyv_table.specs.{listed}
use Rattle.rkyv_index.specs.Map.IndexFormat.{IndexRepresents, IndicesAs, index_format}
use Rattle.rkyv_index.specs.Map.IndexHeader.{IndexResolver}
use Rattle.rkyv_index.specs.Set.SetFormat.{IndexSetRepresents, index_set_format}

-- the index map at a position represents the pairs of the value in order.
-- `key_calls`: hasher calls of the key at a position
abbrev pub ordered_pairs : {A B X : Type 0} → Width → ElementMembers A → ElementMembers B
    → (List ℕ → ℕ → List HasherCall) → (X → List (A × B)) → List ℕ → ℕ → X → Type 0
ordered_pairs w k v key_calls pairs b p x =
    IndexRepresents w k.spec v.spec k.represents v.represents
    (hash_at (fx_hasher low_halves) key_calls) (7, 8) b p (pairs x)

-- the index set at a position represents the keys of the value in order
abbrev pub ordered_items : {A X : Type 0} → Width → ElementMembers A
    → (List ℕ → ℕ → List HasherCall) → (X → List A) → List ℕ → ℕ → X → Type 0
ordered_items w k key_calls items b p x = IndexSetRepresents w k.spec k.represents
    (hash_at (fx_hasher low_halves) key_calls) (7, 8) b p (items x)

-- lists of pairs as index maps under a load factor
abbrev pub index_map_format : {P A B R Q : Type 0} → Width → IndicesAs P → PairFormat A B R Q
    → ℕ × ℕ → Format (List (A × B)) IndexResolver
index_map_format w indices pair load_factor =
    index_format w indices.spec indices.encoding pair.key_spec pair.value_spec pair.key pair.value
    pair.hash load_factor

-- lists of keys as index sets under a load factor
abbrev pub index_keys_format : {P A R : Type 0} → Width → IndicesAs P → KeyFormat A R → ℕ × ℕ
    → Format (List A) IndexResolver
index_keys_format w indices key load_factor =
    index_set_format w indices.spec indices.encoding key.spec key.format key.hash load_factor

-- under each load factor, both formats are the same
abbrev pub SameFormats : {V R : Type 0} → (ℕ × ℕ → Format V R) → (ℕ × ℕ → Format V R) → Type 0
SameFormats f g = (load_factor : ℕ × ℕ) → SameFormat (f load_factor) (g load_factor)

-- values that have a list of pairs, as index maps
abbrev pub ordered_pairs_format : {P A B R Q X : Type 0} → WidthMembers → IndicesAs P
    → PairFormat A B R Q → (X → List (A × B)) → Format X IndexResolver
ordered_pairs_format width indices pair pairs =
    written_as pairs
    (listed width.MAX_CAPACITY (7, 8) (index_map_format width.word indices pair (7, 8)))

-- values that have a list of keys, as index sets
abbrev pub ordered_items_format : {P A R X : Type 0} → WidthMembers → IndicesAs P → KeyFormat A R
    → (X → List A) → Format X IndexResolver
ordered_items_format width indices key items =
    written_as items
    (listed width.MAX_CAPACITY (7, 8) (index_keys_format width.word indices key (7, 8)))
