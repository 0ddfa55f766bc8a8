-- Hash maps in an archive, and the results of lookups in them.
pub mod MapSpec
pub mod Equality
pub mod Misplaced
pub mod MapAt
pub mod Lookups
pub mod MapFormat
pub mod HashedPairs
pub mod Writing
pub mod SealedMap
pub mod SealedPairs
pub mod ValueWrites
pub mod ListedLookups
pub mod ListedWalks
pub mod BothHashers
pub mod MatchedKeys
pub mod Walking
pub mod InPlace
pub mod ListArchives
pub mod NestedWrites
pub mod InPlaceText
pub mod EachValue
use Rattle.rkyv_base.specs.declared.element.HasSpec.{Ghosts as Specs}
use Rattle.rkyv_base.specs.declared.width.Word.{Ghosts as Words}
use Rattle.std.specs.Prelude.{◌≡◌, ℕ, ◌+◌, List, Bool, true, Option, map}
use Rattle.std.specs.Borrow.{Bor}
use Rattle.std.specs.Int.{Width}
use Rattle.std.specs.List.{find}
use Rattle.std.specs.Option.{option_map}
use Rattle.rkyv_base.specs.{ElementSpec, IsAt, IsValidView, archive_of, bytes_of, entry_spec}
use Rattle.rkyv_base.specs.{pos_of, pos_of_found, value_offset}
use Rattle.rkyv_base.specs.declared.entry.Entry.{Entry}
use Rattle.rkyv_base.specs.declared.view.View.{View}
use Rattle.rkyv_table.specs.{WrittenAt, cap_at, home_positions, item_found, item_positions, len_at}
use Rattle.rkyv_table.specs.declared.table.decoded.Decoded.{Decoded}
use Rattle.rkyv_collections.specs.declared.map.ArchivedHashMap.{ArchivedHashMap}
use Rattle.rkyv_collections.specs.declared.map.HashMapOf.{HashMapOf}
use Rattle.rkyv_collections.specs.Map.MapSpec.{IsKeyPosAt, map_spec}

module _ {K V H W : Type 0} {ks : Specs K} {vs : Specs V} {wt : Words W} where
  -- the view of `m` is of a valid map
  abbrev pub IsMap : ArchivedHashMap K V H W ks vs wt → Type 0
  IsMap m = IsValidView (map_spec wt.word ks.spec vs.spec) m.view

  -- the view of the map's header
  abbrev pub map_view : ArchivedHashMap K V H W ks vs wt → View (HashMapOf K V H W)
  map_view m = m.view

  -- the decoded header of the map
  abbrev pub map_header : ArchivedHashMap K V H W ks vs wt → Decoded
  map_header m = m.header

  -- the archive of the map
  abbrev pub map_archive : ArchivedHashMap K V H W ks vs wt → Bor (List ℕ)
  map_archive m = archive_of m.view

  -- the bytes of the map's archive
  abbrev pub map_bytes : ArchivedHashMap K V H W ks vs wt → List ℕ
  map_bytes m = bytes_of m.view

  -- the position of the map's header
  abbrev pub map_pos : ArchivedHashMap K V H W ks vs wt → ℕ
  map_pos m = pos_of m.view

  -- the number of pairs
  abbrev pub map_len : ArchivedHashMap K V H W ks vs wt → ℕ
  map_len m = len_at wt.word (map_bytes m) (map_pos m)

  -- the number of buckets
  abbrev pub map_cap : ArchivedHashMap K V H W ks vs wt → ℕ
  map_cap m = cap_at wt.word (map_bytes m) (map_pos m)

  -- the positions of the keys, in bucket order
  abbrev pub key_positions : ArchivedHashMap K V H W ks vs wt → List ℕ
  key_positions m =
      item_positions wt.word (entry_spec ks.spec vs.spec).size (map_bytes m) (map_pos m)

  -- the map has a key at `q`
  abbrev pub IsKeyPos : ArchivedHashMap K V H W ks vs wt → ℕ → Type 0
  IsKeyPos m q = IsKeyPosAt wt.word ks.spec vs.spec (map_bytes m) (map_pos m) q

  -- the view is the view of a key of the map
  pub record IsKeyIn (m : ArchivedHashMap K V H W ks vs wt) (key : View K) : Type 0 where
    pub archive : archive_of key ≡ map_archive m
    pub viewable : IsValidView ks.spec key
    pub key_pos : IsKeyPos m (pos_of key)

  -- the view is the view of the value behind a key of the map
  pub record IsValueIn (m : ArchivedHashMap K V H W ks vs wt) (value : View V) : Type 0 where
    pub viewable : IsValidView vs.spec value
    pub key : ℕ
    pub walked : IsKeyPos m key
    pub at : IsAt value (map_archive m) (key + value_offset ks.spec vs.spec)

  -- the views are the views of a key of the map and of the value behind it
  pub record IsPairIn (m : ArchivedHashMap K V H W ks vs wt) (pair : View K × View V) : Type 0 where
    pub key : IsKeyIn m pair.0
    pub viewable : IsValidView vs.spec pair.1
    pub at : IsAt pair.1 (map_archive m) (pos_of pair.0 + value_offset ks.spec vs.spec)

  -- the view is the view of an entry of the map
  abbrev pub IsEntryIn : ArchivedHashMap K V H W ks vs wt → View (Entry K V) → Type 0
  IsEntryIn m entry = (archive_of entry ≡ map_archive m)
      × IsValidView (entry_spec ks.spec vs.spec) entry × IsKeyPos m (pos_of entry)

-- the table at `p` was written from entries under the hashes of their keys, in insertion order,
-- with the home buckets `homes`
abbrev pub MapWrittenAt : Width → ElementSpec → (List ℕ → ℕ → ℕ) → List ℕ → ℕ → List ℕ → Type 0
MapWrittenAt w s hash b p homes =
    WrittenAt w b p (map (hash b) (home_positions w s.size b p homes)) homes

module _ (w : Width) (k v : ElementSpec) (b : List ℕ) (p : ℕ) where
  -- each accepted key of the map at `p` is under the hash
  abbrev pub AreUnderHashAt : ℕ → (List ℕ → ℕ → ℕ) → (ℕ → Bool) → Type 0
  AreUnderHashAt hash key_hash accept = (q : ℕ) → IsKeyPosAt w k v b p q → accept q ≡ true
      → key_hash b q ≡ hash

  -- the property applies to the position of the key that a lookup under the hash finds,
  -- or to `None`
  abbrev pub FindsKeyAt : ℕ → (ℕ → Bool) → (Option ℕ → Type 0) → Type 0
  FindsKeyAt hash accept P = P (item_found w (entry_spec k v).size b p hash accept)

  -- if the map at `p` was written, the property applies to the position of the first accepted key
  -- in insertion order, or to `None`
  abbrev pub FindsFirstKeyAt : (List ℕ → ℕ → ℕ) → (ℕ → Bool) → (Option ℕ → Type 0) → Type 0
  FindsFirstKeyAt key_hash accept P =
      (homes : List ℕ) → MapWrittenAt w (entry_spec k v) key_hash b p homes
      → P (find accept (home_positions w (entry_spec k v).size b p homes))

module _ {K V H W : Type 0} {ks : Specs K} {vs : Specs V} {wt : Words W}
    (m : ArchivedHashMap K V H W ks vs wt) where
  -- the comparison can be called with each key
  abbrev pub CanCompareKeys : (View K → Type 0) → Type 0
  CanCompareKeys pre = (key : View K) → IsKeyIn m key → pre key

  -- the comparison returns `accept` of the position of a key
  abbrev pub ComparesKeysBy : (View K → Bool → Type 0) → (ℕ → Bool) → Type 0
  ComparesKeysBy post accept = (key : View K) (r : Bool) → IsKeyIn m key → post key r
      → r ≡ accept (pos_of key)

  -- each accepted key of the map is under the hash
  abbrev pub AreUnderHash : ℕ → (List ℕ → ℕ → ℕ) → (ℕ → Bool) → Type 0
  AreUnderHash hash key_hash accept =
      AreUnderHashAt wt.word ks.spec vs.spec (map_bytes m) (map_pos m) hash key_hash accept

  -- the property applies to the position of the key that a lookup under the hash finds in the map,
  -- or to `None`
  abbrev pub FindsKey : ℕ → (ℕ → Bool) → (Option ℕ → Type 0) → Type 0
  FindsKey hash accept P =
      FindsKeyAt wt.word ks.spec vs.spec (map_bytes m) (map_pos m) hash accept P

  -- if the map was written, the property applies to the position of the first accepted key
  -- in insertion order, or to `None`
  abbrev pub FindsFirstKey : (List ℕ → ℕ → ℕ) → (ℕ → Bool) → (Option ℕ → Type 0) → Type 0
  FindsFirstKey key_hash accept P =
      FindsFirstKeyAt wt.word ks.spec vs.spec (map_bytes m) (map_pos m) key_hash accept P

  -- the property applies to the position that a lookup by a comparison finds,
  -- if the comparison depends only on the position of a key
  abbrev pub FindsBy : (View K → Bool → Type 0) → ℕ → (Option ℕ → Type 0) → Type 0
  FindsBy post hash P = (accept : ℕ → Bool) → ComparesKeysBy post accept → FindsKey hash accept P

  -- the same for a written map, if each accepted key is under the hash
  abbrev pub FindsFirstBy : (View K → Bool → Type 0) → ℕ → (List ℕ → ℕ → ℕ) → (Option ℕ → Type 0)
      → Type 0
  FindsFirstBy post hash key_hash P =
      (accept : ℕ → Bool) → ComparesKeysBy post accept → AreUnderHash hash key_hash accept
      → FindsFirstKey key_hash accept P

-- the position is the found view's, or there is neither
abbrev pub IsViewAt : {E : Type 0} → Option (View E) → Option ℕ → Type 0
IsViewAt result key_pos = pos_of_found result ≡ key_pos

-- the position of the key of a found pair
abbrev pub key_pos_found : {K V : Type 0} → Option (View K × View V) → Option ℕ
key_pos_found {K} {V} result = option_map (λ (pair : View K × View V). pos_of pair.0) result

-- the position is the position of the found pair's key, or there is neither
abbrev pub IsPairAt : {K V : Type 0} → Option (View K × View V) → Option ℕ → Type 0
IsPairAt result key_pos = key_pos_found result ≡ key_pos

-- the found value is behind the key at the position, or there is neither
abbrev pub IsValueAt : {V : Type 0} → ElementSpec → ElementSpec → Option (View V) → Option ℕ
    → Type 0
IsValueAt k v result key_pos = pos_of_found result ≡ option_map (λ q. q + value_offset k v) key_pos
