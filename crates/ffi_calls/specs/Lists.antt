-- Maps that represent lists of pairs, and the archives of such lists.
use Rattle.std.specs.Prelude.{◌≡◌, ℕ, ◌<◌, ◌^◌, ◌≤◌, ◌⊎◌, Bool, List, MatchOption, None}
use Rattle.std.specs.Prelude.{Option, Some}
use Rattle.std.specs.Int.{Width}
use mir.Val.{bits}
use Rattle.rkyv_base.specs.{ArchiveOf, ElementSpec, Encoding, Format, IsValidArchive}
use Rattle.rkyv_base.specs.{ScalarRepresents, ToBytesFails, WidthMembers}
use Rattle.rkyv_scan.specs.{HasherCall, fx_hasher, hash_of_calls, low_halves}
use Rattle.rkyv_base.specs.declared.errors.WriteError.{WriteError}
use Rattle.rkyv_table.specs.{TableResolver}
use Rattle.rkyv_collections.specs.{MapAt, MapRepresents, ValueQuery, WalksVisitPairs, map_spec}
use Rattle.rkyv_collections.specs.{pairs_under, query_of_value}
use Rattle.rkyv_keys.specs.{NativePairs, PairFormat, first_pair, first_value, with_first}
use Rattle.rkyv_keys.specs.{native_pairs}
use Rattle.ffi_calls.specs.Archives.{limit_of, map_in, most_of, word_of}
use Rattle.ffi_calls.specs.declared.any_value.AnyValue.{AnyValue}
use Rattle.ffi_calls.specs.declared.any_value.IndexedValue.{IndexedValue}

-- the pairs that bytes represent. `key` and `value`: what represents the keys and the values,
-- `key_calls`: hasher calls of the key at a position
abbrev pub fx_pairs : {A B : Type 0} → (List ℕ → ℕ → A → Type 0) → (List ℕ → ℕ → B → Type 0)
    → (List ℕ → ℕ → List HasherCall) → NativePairs A B
fx_pairs key value key_calls = native_pairs key value (fx_hasher low_halves) key_calls

-- the hash of the key at a position, by its hasher calls
abbrev pub fx_hash_at : (List ℕ → ℕ → List HasherCall) → List ℕ → ℕ → ℕ
fx_hash_at calls b q = hash_of_calls (fx_hasher low_halves) (calls b q)

-- the lookup of keys by the values that they represent
abbrev pub query_of_key : {A : Type 0} → (List ℕ → ℕ → A → Type 0) → (List ℕ → ℕ → List HasherCall)
    → (A → Bool) → ValueQuery A
query_of_key represents key_calls accept_value =
    query_of_value (fx_hasher low_halves) key_calls represents accept_value

-- the map represents the pairs, under the load factor
abbrev pub PairsRepresent : {A N : Type 0} → MapAt → NativePairs A N → ℕ × ℕ → List (A × N) → Type 0
PairsRepresent m native factor pairs =
    MapRepresents m.word m.key m.value native.key native.value native.key_hash factor m.bytes m.pos
    pairs

module _ {A B : Type 0} (m : MapAt) (a : ValueQuery A) (value : List ℕ → ℕ → B → Type 0) where
  -- the pairs that entries of a map represent, by `a` and by `value`
  abbrev pub query_pairs : NativePairs A B
  query_pairs = record { key = a.represents; value = value; key_hash = a.key_hash }

  -- `target` is the position of the first value whose key is accepted, or both are `None`
  abbrev pub PosOfFirst : Option ℕ → Type 0
  PosOfFirst target = (factor : ℕ × ℕ) (pairs : List (A × B))
      → PairsRepresent m query_pairs factor pairs
      → MatchOption (first_value a.accept_value pairs) (target ≡ None)
      (λ x. (q : ℕ) × (target ≡ Some q) × value m.bytes q x)

  -- `result` has the value of the first pair whose key is accepted, and the index 0. Without one
  -- it is `None`. `IsValue`: a stored value is of a native one
  abbrev pub FindsFirstValue : (AnyValue → B → Type 0) → Option IndexedValue → Type 0
  FindsFirstValue IsValue result = (factor : ℕ × ℕ) (pairs : List (A × B))
      → PairsRepresent m query_pairs factor pairs
      → MatchOption result (first_value a.accept_value pairs ≡ None) (λ found.
      (found.index ≡ 0) × ((x : B) × (first_value a.accept_value pairs ≡ Some x)
      × IsValue found.value x))

-- After an overwrite, what represented a list represents it with the value of `number` in the first
-- pair whose key is accepted. Without one the status is 1; if `number` has too many bits it is 3.
-- `Before` and `After`: the list is represented, under the load factor
abbrev pub SetsFirstPair : {A N : Type 0} → (A → Bool) → Encoding N
    → (ℕ × ℕ → List (A × N) → Type 0) → (ℕ × ℕ → List (A × N) → Type 0) → ℕ → ℕ → Type 0
SetsFirstPair {A} {N} accept e Before After number status =
    (factor : ℕ × ℕ) (pairs : List (A × N)) → Before factor pairs
    → ((2 ^ bits e.word ≤ number) × (status ≡ 3))
    ⊎ ((number < 2 ^ bits e.word) × ((value : N) × (e.code value ≡ number)
    × MatchOption (first_pair accept pairs) (status ≡ 1) (λ pair. status ≡ 0)
    × After factor (with_first accept value pairs)))

-- after an overwrite the map in `c` represents the list with the new value in the first such pair
abbrev pub SetsFirstOf : {A N : Type 0} → MapAt → ValueQuery A → Encoding N → ℕ → ℕ → List ℕ
    → Type 0
SetsFirstOf m a e number status c = let native = query_pairs m a (ScalarRepresents e) in
    SetsFirstPair a.accept_value e (PairsRepresent m native)
    (PairsRepresent (map_in m.word m.key m.value c) native) number status

-- A walk over an archive of a list visits the home buckets of its pairs, each once and ascending.
-- It visits no other bucket, and the n-th home bucket has the n-th pair.
abbrev pub WalksVisitListed : {A N : Type 0} → Width → ElementSpec → ElementSpec → NativePairs A N
    → Type 0
WalksVisitListed w k v native = WalksVisitPairs w k v native.key native.value native.key_hash

-- the width of an archive. `word`: its word, `limit`: greatest length of an archive in bytes,
-- `most`: greatest number of buckets
pub record ArchiveWidth : Type 0 where
  pub word : Width
  pub limit : ℕ
  pub most : ℕ

-- the width of an archive, narrow or wide
abbrev pub width_by : Bool → ArchiveWidth
width_by wide = record { word = word_of wide; limit = limit_of wide; most = most_of wide }

-- the width with the members of a `Width`
abbrev pub archive_width : WidthMembers → ArchiveWidth
archive_width w = record { word = w.word; limit = w.LIMIT; most = w.MAX_CAPACITY }

module _ {A N R Q : Type 0} (width : ArchiveWidth) (format : PairFormat A N R Q) where
  -- the format of a list of pairs as a map under the load factor 7 / 8
  abbrev pub pairs_format : Format (List (A × N)) TableResolver
  pairs_format = pairs_under width.most width.word format (7, 8)

  -- the spec of the header of the map
  abbrev pub header_spec : ElementSpec
  header_spec = map_spec width.word format.key_spec format.value_spec

  -- `b` is the archive of the pairs, in this order.
  -- It is valid, represents them, and has no other bytes.
  unfoldable pub IsArchiveOf : NativePairs A N → List (A × N) → List ℕ → Type 0
  IsArchiveOf native pairs b =
      ArchiveOf width.limit header_spec
      (MapRepresents width.word format.key_spec format.value_spec native.key native.value
      native.key_hash (7, 8)) pairs_format pairs b

  -- the write of the pairs fails with `error`
  unfoldable pub ArchiveFails : {F : Type 0} → List (A × N) → WriteError F → Type 0
  ArchiveFails pairs error = ToBytesFails width.limit header_spec pairs_format pairs error

  -- an archive of a list is valid, and represents the list
  abbrev pub ArchivesRepresent : NativePairs A N → Type 0
  ArchivesRepresent native = (pairs : List (A × N)) (b : List ℕ) → IsArchiveOf native pairs b
      → IsValidArchive width.limit header_spec b
      × PairsRepresent (map_in width.word format.key_spec format.value_spec b) native (7, 8) pairs

-- `b` is the archive of the pairs, in this order, in the width with the members of a `Width`
abbrev pub IsWritten : {A N R Q : Type 0} → WidthMembers → PairFormat A N R Q → NativePairs A N
    → List (A × N) → List ℕ → Type 0
IsWritten w format native pairs b = IsArchiveOf (archive_width w) format native pairs b
