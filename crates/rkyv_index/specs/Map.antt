-- Index maps in an archive, and lookups in them.
pub mod IndexLayout
pub mod IndexHeader
pub mod Row
pub mod IndexFormat
pub mod ValueWrites
pub mod NestedWrites
pub mod BothHashers
pub mod SealedIndex
pub mod Walking
pub mod Equality
pub mod Complete
pub mod Lookups
pub mod InPlace
pub mod ListArchives
pub mod ListedLookups
pub mod MatchedKeys
pub mod ListedWalks
pub mod PairsAt
pub mod Reading
pub mod Writing
use Rattle.rkyv_base.specs.declared.element.HasSpec.{Ghosts as Specs}
use Rattle.rkyv_base.specs.declared.width.Word.{Ghosts as Words}
use Rattle.std.specs.Prelude.{◌≡◌, ℕ, suc, zero, ◌+◌, ◌/◌, ◌<◌, ◌≤◌, List, [], ◌∷◌, Bool, true}
use Rattle.std.specs.Prelude.{MatchOption, None, Option, Some, length}
use Rattle.std.specs.Borrow.{Bor}
use Rattle.std.specs.Int.{Width, byte_len}
use Rattle.std.specs.List.{find}
use Rattle.std.specs.Option.{option_map}
use Rattle.rkyv_scan.specs.{generic_kind}
use Rattle.rkyv_base.specs.{ElementSpec, IsAt, IsValidView, archive_of, bytes_of, entry_spec}
use Rattle.rkyv_base.specs.{number_at, pos_of, value_offset}
use Rattle.rkyv_base.specs.declared.entry.Entry.{Entry}
use Rattle.rkyv_base.specs.declared.view.View.{View}
use Rattle.rkyv_table.specs.{FindsItem, HasItemAt, IsCutAt, IsItem, ReadsWithin, cap_at}
use Rattle.rkyv_table.specs.{count_after, item_found, len_at, probe_capacity, probe_length_at}
use Rattle.rkyv_table.specs.declared.table.ArchivedHashTable.{ArchivedHashTable}
use Rattle.rkyv_table.specs.declared.table.decoded.Decoded.{Decoded}
use Rattle.rkyv_index.specs.Map.IndexFormat.{IndexWrittenAt}
use Rattle.rkyv_index.specs.Map.IndexLayout.{entries_pos, indices_of, pair_pos}
use Rattle.rkyv_index.specs.declared.map.ArchivedIndexMap.{ArchivedIndexMap}
use Rattle.rkyv_index.specs.declared.map.IndexMapOf.{IndexMapOf}

-- the positions of `n` values of `size` bytes in a row, from `q` on
abbrev pub row : ℕ → ℕ → ℕ → List ℕ
row size q zero = []
row size q (suc n) = q ∷ row size (q + size) n

-- the positions of the entries, in order
abbrev pub pair_positions : Width → ℕ → List ℕ → ℕ → List ℕ
pair_positions w size b p = row size (entries_pos w b p) (len_at w b p)

-- an item of the table has the index `i`
abbrev pub IsStoredAt : Width → List ℕ → ℕ → ℕ → Type 0
IsStoredAt w b p i = (q : ℕ) × HasItemAt w (byte_len w) b p q × (number_at w b q ≡ i)

-- an item of the table has the index `i`, and it is below the length
abbrev pub IsStoredBelow : Width → List ℕ → ℕ → ℕ → Type 0
IsStoredBelow w b p i = IsStoredAt w b p i × (i < len_at w b p)

-- the index that a lookup under `hash` finds. `accept i`: the key at index `i` is accepted
abbrev pub index_found : Width → List ℕ → ℕ → ℕ → (ℕ → Bool) → Option ℕ
index_found w b p hash accept =
    option_map (number_at w b)
    (item_found w (byte_len w) b p hash (λ q. accept (number_at w b q)))

-- the number of strides that a lookup under `hash` reads. `accept i`: the key at index `i`
-- is accepted
abbrev pub index_strides : Width → List ℕ → ℕ → ℕ → (ℕ → Bool) → ℕ
index_strides w b p hash accept = probe_length_at generic_kind w (byte_len w) b p hash (λ q.
    accept (number_at w b q))

-- `key`: view of the key at index `i` of the map at `m`
pub record IsKeyIn {M K : Type 0} (w : Width) (k v : ElementSpec) (m : View M) (i : ℕ)
    (key : View K) : Type 0 where
  pub below : i < len_at w (bytes_of m) (pos_of m)
  pub at : IsAt key (archive_of m) (pair_pos w (entry_spec k v).size (bytes_of m) (pos_of m) i)
  pub viewable : IsValidView k key

module _ {K V H W : Type 0} {ks : Specs K} {vs : Specs V} {wt : Words W} where
  -- the view of the map's header
  abbrev pub index_view : ArchivedIndexMap K V H W ks vs wt → View (IndexMapOf K V H W)
  index_view m = m.view

  -- the decoded header of the table of indices
  abbrev pub index_header : ArchivedIndexMap K V H W ks vs wt → Decoded
  index_header m = m.header

  -- the archive of the map
  abbrev pub index_archive : ArchivedIndexMap K V H W ks vs wt → Bor (List ℕ)
  index_archive m = archive_of (index_view m)

  -- the bytes of the archive
  abbrev pub index_bytes : ArchivedIndexMap K V H W ks vs wt → List ℕ
  index_bytes m = bytes_of (index_view m)

  -- the position of the header
  abbrev pub index_pos : ArchivedIndexMap K V H W ks vs wt → ℕ
  index_pos m = pos_of (index_view m)

  -- the number of pairs
  abbrev pub index_len : ArchivedIndexMap K V H W ks vs wt → ℕ
  index_len m = len_at wt.word (index_bytes m) (index_pos m)

  -- the number of buckets of the table of indices
  abbrev pub index_cap : ArchivedIndexMap K V H W ks vs wt → ℕ
  index_cap m = cap_at wt.word (index_bytes m) (index_pos m)

  -- the position of the key at index `i`
  abbrev pub key_pos : ArchivedIndexMap K V H W ks vs wt → ℕ → ℕ
  key_pos m i = pair_pos wt.word (entry_spec ks.spec vs.spec).size (index_bytes m) (index_pos m) i

  -- the positions of the keys, in order
  abbrev pub key_positions : ArchivedIndexMap K V H W ks vs wt → List ℕ
  key_positions m = pair_positions wt.word (entry_spec ks.spec vs.spec).size (index_bytes m)
      (index_pos m)

  -- `key`: view of the key at index `i`
  abbrev pub IsKeyOf : ArchivedIndexMap K V H W ks vs wt → ℕ → View K → Type 0
  IsKeyOf m i key = IsKeyIn wt.word ks.spec vs.spec (index_view m) i key

  -- `value`: view of the value at index `i`
  pub record IsValueOf (m : ArchivedIndexMap K V H W ks vs wt) (i : ℕ) (value : View V) : Type 0
    where
      pub below : i < index_len m
      pub at : IsAt value (index_archive m) (key_pos m i + value_offset ks.spec vs.spec)
      pub viewable : IsValidView vs.spec value

  -- `entry`: view of the entry at index `i`
  pub record IsEntryOf (m : ArchivedIndexMap K V H W ks vs wt) (i : ℕ) (entry : View (Entry K V)) :
      Type 0 where
    pub below : i < index_len m
    pub at : IsAt entry (index_archive m) (key_pos m i)
    pub viewable : IsValidView (entry_spec ks.spec vs.spec) entry

  -- `pair`: views of the key and the value at index `i`
  abbrev pub IsPairOf : ArchivedIndexMap K V H W ks vs wt → ℕ → View K × View V → Type 0
  IsPairOf m i pair = IsKeyOf m i pair.0 × IsValueOf m i pair.1

  -- an item of the map's table has the index `i`
  abbrev pub IsStored : ArchivedIndexMap K V H W ks vs wt → ℕ → Type 0
  IsStored m i = IsStoredAt wt.word (index_bytes m) (index_pos m) i

  -- an item of the map's table has the index `i`, and it is below the length
  abbrev pub IsStoredIndex : ArchivedIndexMap K V H W ks vs wt → ℕ → Type 0
  IsStoredIndex m i = IsStoredBelow wt.word (index_bytes m) (index_pos m) i

  -- `full`: an index in the table, and views of its key and its value
  abbrev pub IsFullResult : ArchivedIndexMap K V H W ks vs wt → ℕ × View K × View V → Type 0
  IsFullResult m full = IsStored m full.0 × IsPairOf m full.0 (full.1, full.2)

  -- `full`: an index in the table, and a view of its key
  abbrev pub IsFullKeyIn : ArchivedIndexMap K V H W ks vs wt → ℕ × View K → Type 0
  IsFullKeyIn m full = IsStored m full.0 × IsKeyOf m full.0 full.1

  -- the number of strides that a lookup reads: none in an empty map, else at least one
  -- and at most ceil(n / 16) for n buckets. `before`, `after`: counts of strides
  abbrev pub ReadsWithinBound : ArchivedIndexMap K V H W ks vs wt → ℕ → ℕ → Type 0
  ReadsWithinBound m before after =
      ReadsWithin (index_len m) (probe_capacity (index_cap m) / 16) before after

  -- At most `limit` strides and one more lookup's are counted, and `result` is `None` if
  -- and only if more than `limit` are. `before`, `after`: counts of strides
  abbrev pub ReadsUpTo : ArchivedIndexMap K V H W ks vs wt → ℕ → ℕ → ℕ → Option ℕ → Type 0
  ReadsUpTo m limit before after result =
      IsCutAt limit (probe_capacity (cap_at wt.word (index_bytes m) (index_pos m)) / 16) before
      after result

-- `item`: a position inside its archive, with an index below the length of the map at `m`
abbrev pub IsIndexOf : {M P : Type 0} → Width → View M → View P → Type 0
IsIndexOf w m item = (pos_of item + byte_len w ≤ length (bytes_of item))
    × (number_at w (bytes_of item) (pos_of item) < len_at w (bytes_of m) (pos_of m))

-- the index at the view `item`
abbrev pub stored_index : {P : Type 0} → Width → View P → ℕ
stored_index w item = number_at w (bytes_of item) (pos_of item)

-- `item` is inside its archive, and the condition `pre` is met for the index there
abbrev pub CanCompareIndex : {P : Type 0} → Width → (ℕ → Type 0) → View P → Type 0
CanCompareIndex w pre item = (pos_of item + byte_len w ≤ length (bytes_of item))
    × ((i : ℕ) → i ≡ stored_index w item → pre i)

-- the condition `pre` is met for the index at each item of a table of indices
abbrev pub CanCompareIndices : {P W : Type 0} {ts : Specs P} {wt : Words W} → (ℕ → Type 0)
    → ArchivedHashTable P W ts wt → Type 0
CanCompareIndices {P} {wt = wt} pre t = (item : View P) → IsItem t item
    → CanCompareIndex wt.word pre item

-- `post` is true of the index at `item` and of `r`
abbrev pub ComparesIndexBy : {P : Type 0} → Width → (ℕ → Bool → Type 0) → View P → Bool → Type 0
ComparesIndexBy w post item r = (i : ℕ) × (i ≡ stored_index w item) × post i r

-- `result`: the index at the item that a lookup by `post` finds in a table of indices
pub record FindsIndexIn {P W : Type 0} {ts : Specs P} {wt : Words W} (post : ℕ → Bool → Type 0)
    (t : ArchivedHashTable P W ts wt) (hash : ℕ) (result : Option ℕ) : Type 0 where
  pub item : Option (View P)
  pub found : FindsItem (ComparesIndexBy wt.word post) generic_kind t hash item
  pub is : result ≡ option_map (stored_index wt.word) item

-- the condition `pre` is met for each key of the map at `m`
abbrev pub CanCompareKeysIn : {M K : Type 0} → Width → ElementSpec → ElementSpec → View M → (View K
    → Type 0)
    → Type 0
CanCompareKeysIn {M} {K} w k v m pre = (i : ℕ) (key : View K) → IsKeyIn w k v m i key → pre key

-- `result` is at `index`, or both are `None`
abbrev pub MatchesAt : {X : Type 0} → (ℕ → X → Type 0) → Option X → Option ℕ → Type 0
MatchesAt {X} Related result index =
    MatchOption index (result ≡ None) (λ i. (x : X) × (result ≡ Some x) × Related i x)

-- the key at index `i` of the map at `p` fits
abbrev pub fits_in : Width → ElementSpec → ElementSpec → List ℕ → ℕ → (List ℕ → ℕ → Bool) → ℕ → Bool
fits_in w k v b p fits i = fits b (pair_pos w (entry_spec k v).size b p i)

-- An index map for lookups: one that is read, one at a seal, or an index set's.
-- `bytes`: bytes of the archive, `pos`: position of the header.
-- `is_key i v`: `v` is a view of the key at index `i`.
pub record Index (K : Type 0) : Type 1 where
  pub word : Width
  pub key : ElementSpec
  pub value : ElementSpec
  pub bytes : List ℕ
  pub pos : ℕ
  pub is_key : ℕ → View K → Type 0

-- the index map `m` for lookups
abbrev pub index_of : {K V H W : Type 0} {ks : Specs K} {vs : Specs V} {wt : Words W}
    → ArchivedIndexMap K V H W ks vs wt → Index K
index_of {ks = ks} {vs} {wt} m = record {
  word = wt.word;
  key = ks.spec;
  value = vs.spec;
  bytes = index_bytes m;
  pos = index_pos m;
  is_key = IsKeyOf m;
}

module _ {K : Type 0} (m : Index K) where
  -- the indices of the pairs, in order
  abbrev pub pair_indices : List ℕ
  pair_indices = indices_of (len_at m.word m.bytes m.pos)

  -- the position of the key at index `i`
  abbrev pub key_at : ℕ → ℕ
  key_at i = pair_pos m.word (entry_spec m.key m.value).size m.bytes m.pos i

  -- the key at index `i` fits
  abbrev pub fits_at : (List ℕ → ℕ → Bool) → ℕ → Bool
  fits_at fits i = fits m.bytes (key_at i)

  -- the table of the map was written: it has the indices in order, each under the hash of its key
  -- and with the home buckets `homes`
  abbrev pub IsWritten : (List ℕ → ℕ → ℕ) → List ℕ → Type 0
  IsWritten key_hash homes =
      IndexWrittenAt m.word (entry_spec m.key m.value).size key_hash m.bytes m.pos homes

  -- the condition `pre` is met for each key of the map
  abbrev pub CanCompareKeysOf : (View K → Type 0) → Type 0
  CanCompareKeysOf pre = (i : ℕ) (key : View K) → m.is_key i key → pre key

  -- a comparison with `post` returns `accept i` for each key at index `i`
  abbrev pub ComparesKeysBy : (View K → Bool → Type 0) → (ℕ → Bool) → Type 0
  ComparesKeysBy post accept = (i : ℕ) (key : View K) (r : Bool) → m.is_key i key → post key r
      → r ≡ accept i

  -- the comparison with `post` accepts the key at index `i`
  abbrev pub IsAccepted : (View K → Bool → Type 0) → ℕ → Type 0
  IsAccepted post i = (key : View K) × m.is_key i key × post key true

  -- each accepted key is under the hash
  abbrev pub AreUnderHash : ℕ → (List ℕ → ℕ → ℕ) → (ℕ → Bool) → Type 0
  AreUnderHash hash key_hash accept = (i : ℕ) → i < len_at m.word m.bytes m.pos → accept i ≡ true
      → key_hash m.bytes (key_at i) ≡ hash

  -- the property applies to the index that a lookup under the hash finds, or to `None`
  abbrev pub FindsIndex : ℕ → (ℕ → Bool) → (Option ℕ → Type 0) → Type 0
  FindsIndex hash accept P = P (index_found m.word m.bytes m.pos hash accept)

  -- if the map was written, the property applies to the first accepted index, or to `None`
  abbrev pub FindsFirstIndex : (List ℕ → ℕ → ℕ) → (ℕ → Bool) → (Option ℕ → Type 0) → Type 0
  FindsFirstIndex key_hash accept P =
      (homes : List ℕ) → IsWritten key_hash homes → P (find accept pair_indices)

  -- a lookup by a comparison reads these strides, under a hash. `before`, `after`: counts
  -- of strides
  abbrev pub CountsBy : (View K → Bool → Type 0) → ℕ → ℕ → ℕ → Type 0
  CountsBy post hash before after = (accept : ℕ → Bool) → ComparesKeysBy post accept
      → after ≡ count_after before (index_strides m.word m.bytes m.pos hash accept)

  -- a lookup of a query reads these strides, under a hash. `fits`: test of the keys
  abbrev pub CountsKey : ℕ → (List ℕ → ℕ → Bool) → ℕ → ℕ → Type 0
  CountsKey hash fits before after =
      after ≡ count_after before (index_strides m.word m.bytes m.pos hash (fits_at fits))

  -- the property applies to the index that a lookup by a comparison finds, if the comparison
  -- depends only on the index of a key
  abbrev pub FindsBy : (View K → Bool → Type 0) → ℕ → (Option ℕ → Type 0) → Type 0
  FindsBy post hash P = (accept : ℕ → Bool) → ComparesKeysBy post accept → FindsIndex hash accept P

  -- the same for a written map, if each accepted key is under the hash. `key_hash b q`: hash of
  -- the key at `q`
  abbrev pub FindsFirstBy : (View K → Bool → Type 0) → ℕ → (List ℕ → ℕ → ℕ) → (Option ℕ → Type 0)
      → Type 0
  FindsFirstBy post hash key_hash P =
      (accept : ℕ → Bool) → ComparesKeysBy post accept → AreUnderHash hash key_hash accept
      → FindsFirstIndex key_hash accept P

  -- the property applies to the index that a lookup of a query finds, or to `None`. `fits`: test
  -- of the keys
  abbrev pub FindsKey : ℕ → (List ℕ → ℕ → Bool) → (Option ℕ → Type 0) → Type 0
  FindsKey hash fits P = FindsIndex hash (fits_at fits) P

  -- if the map was written, the property applies to the first index whose key fits, or to `None`
  abbrev pub FindsFirstKey : (List ℕ → ℕ → ℕ) → (List ℕ → ℕ → Bool) → (Option ℕ → Type 0) → Type 0
  FindsFirstKey key_hash fits P = FindsFirstIndex key_hash (fits_at fits) P

module _ {K V H W : Type 0} {ks : Specs K} {vs : Specs V} {wt : Words W}
    (m : ArchivedIndexMap K V H W ks vs wt) where
  -- the condition `pre` is met for each key of the map
  abbrev pub CanCompareKeys : (View K → Type 0) → Type 0
  CanCompareKeys pre = CanCompareKeysOf (index_of m) pre

  -- `result`: the pair at `index`, or `None` if `index` is `None`
  abbrev pub IsPairAt : Option (View K × View V) → Option ℕ → Type 0
  IsPairAt result index = MatchesAt (IsPairOf m) result index

  -- `result`: the value at `index`, or `None` if `index` is `None`
  abbrev pub IsValueAt : Option (View V) → Option ℕ → Type 0
  IsValueAt result index = MatchesAt (IsValueOf m) result index

-- `result` is `index`, or both are `None`
abbrev pub IsIndex : Option ℕ → Option ℕ → Type 0
IsIndex result index = result ≡ index

-- the index in `result`
abbrev pub full_index : {K V : Type 0} → Option (ℕ × View K × View V) → Option ℕ
full_index {K} {V} result = option_map (λ (full : ℕ × View K × View V). full.0) result

-- the index in `result`
abbrev pub full_key_index : {K : Type 0} → Option (ℕ × View K) → Option ℕ
full_key_index {K} result = option_map (λ (full : ℕ × View K). full.0) result
