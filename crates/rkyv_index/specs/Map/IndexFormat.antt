-- The format of a list as an index map, and the bytes that represent the list.
use Rattle.std.specs.Prelude.{◌≡◌, ℕ, ◌+◌, ◌⊎◌, List, [], ◌∷◌, ◌++◌, length, map, slice_get, Some}
use Rattle.std.specs.Int.{Width, byte_len}
use Rattle.rkyv_base.specs.{ElementSpec, Encoding, Format, IsFormat, PairRepresents, Step}
use Rattle.rkyv_base.specs.{entry_spec, number_at, padding, pair_format, piece, scalar_format}
use Rattle.rkyv_base.specs.{zeros}
use Rattle.rkyv_keys.specs.{HasherMembers, KeyMembers, archived_hash, native_hash}
use Rattle.rkyv_keys.specs.declared.hash.KeyHash.{Ghosts as Hashes}
use Rattle.rkyv_table.specs.{PairsNext, TableParts, TableResolver, WrittenAt, cap_at, capacity}
use Rattle.rkyv_table.specs.{home_positions, len_at, resolved_capacity}
use Rattle.rkyv_index.specs.Map.IndexHeader.{IndexOverflows, IndexResolver, IsIndexHeader}
use Rattle.rkyv_index.specs.Map.IndexLayout.{index_spec, indices_of, pair_pos}
use Rattle.rkyv_index.specs.Map.Row.{RowImages, RowNext, RowParts, RowPartsNext}

-- the code of each number that is encoded by `e` is the number
abbrev pub CodesReadBack : {P : Type 0} → Encoding P → Type 0
CodesReadBack e = (n : ℕ) → e.code (e.value n) ≡ n

-- the indices of the values from `i` on, each under the hash of its value
abbrev pub indices_from : {X P : Type 0} → (X → ℕ) → (ℕ → P) → ℕ → List X → List (ℕ × P)
indices_from hash index i [] = []
indices_from hash index i (x ∷ xs) = (hash x, index i) ∷ indices_from hash index (i + 1) xs

module _ {P X R : Type 0} (w : Width) (ps : ElementSpec) (e : Encoding P) (s : ElementSpec)
    (f : Format X R)
    (hash : X → ℕ)
    (load_factor : ℕ × ℕ) (xs : List X) (p : ℕ) where
  -- the indices of `xs`, each under the hash of its value
  abbrev pub hashed_indices : List (ℕ × P)
  hashed_indices = indices_from hash e.value 0 xs

  -- `part`: bytes of the table of indices, which are written first. `r`: its resolver
  abbrev pub IndexTable : List ℕ → TableResolver → Type 0
  IndexTable part r = TableParts w ps (scalar_format e) load_factor hashed_indices p part r

  -- `front`: bytes of the table of indices, and then the parts of the values
  pub record BeforeZeros (front : List ℕ) (t : TableResolver) (rs : List R) : Type 0 where
    pub table : List ℕ
    pub part_bytes : List ℕ
    pub serialized : IndexTable table t
    pub parts : RowParts f xs (p + length table) part_bytes rs
    pub is : front ≡ table ++ part_bytes

  -- `front`: those bytes, and then zeros up to the alignment of the values
  pub record BeforeRow (front : List ℕ) (t : TableResolver) (rs : List R) : Type 0 where
    pub head : List ℕ
    pub serialized : BeforeZeros head t rs
    pub is : front ≡ head ++ zeros (padding s.align (p + length head))

  -- `part`: bytes of the written index map. `r`: its resolver
  pub record IndexParts (part : List ℕ) (r : IndexResolver) : Type 0 where
    pub front : List ℕ
    pub resolvers : List R
    pub row : List ℕ
    pub before : BeforeRow front r.table resolvers
    pub at : r.entries ≡ p + length front
    pub images : RowImages f xs resolvers r.entries row
    pub is : part ≡ front ++ row

  -- `step`: next step after `front`. It is a step of the table, of the parts of a value,
  -- of the zeros, or of the own bytes of a value
  abbrev pub IndexNext : List ℕ → Step → Type 0
  IndexNext front step =
      PairsNext w ps (scalar_format e) load_factor hashed_indices p front step
      ⊎ ((table : List ℕ) × (t : TableResolver) × (rest : List ℕ) × IndexTable table t
      × RowPartsNext f xs (p + length table) rest step × (front ≡ table ++ rest))
      ⊎ ((t : TableResolver) × (rs : List R) × BeforeZeros front t rs
      × (step ≡ piece (zeros (padding s.align (p + length front)))))
      ⊎ ((a : List ℕ) × (t : TableResolver) × (rs : List R) × (rest : List ℕ) × BeforeRow a t rs
      × RowNext f xs rs (p + length a) rest step × (front ≡ a ++ rest))

-- the format of a list of values of spec `s` as an index map under a load factor.
-- The indices have the spec `ps` and the encoding `e`. Each value is under its hash
abbrev pub row_format : {P X R : Type 0} → Width → ElementSpec → Encoding P → ElementSpec
    → Format X R → (X
    → ℕ) → ℕ × ℕ
    → Format (List X) IndexResolver
row_format w ps e s f hash load_factor = record {
  parts = IndexParts w ps e s f hash load_factor;
  next = IndexNext w ps e s f hash load_factor;
  image = λ xs r p out. IsIndexHeader w r.table.len (resolved_capacity r.table) r p out;
  overflow = λ xs r p. IndexOverflows w r.table.len r p;
}

-- The format of a list of pairs, in insertion order, as an index map under a load factor.
-- Its table has the index of each pair under the hash of its key. The parts of the entries follow,
-- then zeros, and then the entries.
abbrev pub index_format : {P A B R Q : Type 0} → Width → ElementSpec → Encoding P → ElementSpec
    → ElementSpec → Format A R → Format B Q → (A → ℕ) → ℕ × ℕ → Format (List (A × B)) IndexResolver
index_format w ps e k v key value hash load_factor = row_format w ps e (entry_spec k v)
    (pair_format k v key value) (λ pair. hash pair.0) load_factor

-- the map at `p` was written: its table has the indices in order, each under the hash of its key
-- and with the home buckets `homes`
pub record IndexWrittenAt (w : Width) (size : ℕ) (key_hash : List ℕ → ℕ → ℕ) (b : List ℕ) (p : ℕ)
    (homes : List ℕ) : Type 0 where
  pub table : WrittenAt w b p (map (λ i. key_hash b (pair_pos w size b p i))
      (indices_of (len_at w b p))) homes
  pub indices : map (number_at w b) (home_positions w (byte_len w) b p homes) ≡ indices_of
      (len_at w b p)

-- The index map at `p` represents the list `xs`: it was written, and the values are in a row,
-- in insertion order. `hash b q`: hash of the value at `q`.
pub record RowRepresents {X : Type 0} (w : Width) (size : ℕ) (represents : List ℕ → ℕ → X → Type 0)
    (hash : List ℕ → ℕ → ℕ) (load_factor : ℕ × ℕ) (b : List ℕ) (p : ℕ) (xs : List X) : Type 0 where
  pub homes : List ℕ
  pub written : IndexWrittenAt w size hash b p homes
  pub len : len_at w b p ≡ length xs
  pub cap : cap_at w b p ≡ capacity (length xs) load_factor
  pub at : (i : ℕ) (x : X) → slice_get xs i ≡ Some x → represents b (pair_pos w size b p i) x

-- the index map at `p` represents the list `pairs`, under the hashes of their keys
abbrev pub IndexRepresents : {A B : Type 0} → Width → ElementSpec → ElementSpec → (List ℕ → ℕ → A
    → Type 0)
    → (List ℕ → ℕ → B → Type 0) → (List ℕ → ℕ → ℕ) → ℕ × ℕ → List ℕ → ℕ → List (A × B) → Type 0
IndexRepresents w k v key value hash load_factor b p pairs = RowRepresents w (entry_spec k v).size
    (PairRepresents k v key value) hash load_factor b p pairs

-- how indices are written: their spec and their encoding
pub record IndicesAs (P : Type 0) : Type 1 where
  pub spec : ElementSpec
  pub encoding : Encoding P

-- indices of this spec and encoding
abbrev pub indices : {P : Type 0} → ElementSpec → Encoding P → IndicesAs P
indices spec encoding = record { spec = spec; encoding = encoding }

-- how values are archived by an element: its spec, the values that it represents,
-- and their format
pub record ArchivedAs (A R : Type 0) : Type 1 where
  pub spec : ElementSpec
  pub represents : List ℕ → ℕ → A → Type 0
  pub format : Format A R

-- values that are archived by an element of this spec
abbrev pub element : {A R : Type 0} → ElementSpec → (List ℕ → ℕ → A → Type 0) → Format A R
    → ArchivedAs A R
element spec represents format = record { spec = spec; represents = represents; format = format }

-- the hashes of keys. `archived`: hash of the key at a position, `native`: hash of a native key
pub record KeyHashes (A : Type 0) : Type 0 where
  pub archived : List ℕ → ℕ → ℕ
  pub native : A → ℕ

-- the hashes of keys by a hasher, a type of archived keys and a type of native keys
abbrev pub key_hashes : {State A : Type 0} → HasherMembers State → KeyMembers → Hashes A
    → KeyHashes A
key_hashes hasher key native =
    record { archived = archived_hash hasher key; native = native_hash hasher native }

-- Under each load factor, written bytes of pairs and an aligned header behind them are a valid
-- index map. It represents the pairs, in any archive that has these bytes.
abbrev pub WrittenIndexMaps : {P A B R Q : Type 0} → Width → IndicesAs P
    → ArchivedAs A R → ArchivedAs B Q → KeyHashes A → Type 0
WrittenIndexMaps w hashed_indices k v hashes =
    (load_factor : ℕ × ℕ)
    → IsFormat (index_spec w (entry_spec k.spec v.spec))
    (IndexRepresents w k.spec v.spec k.represents v.represents hashes.archived load_factor)
    (index_format w hashed_indices.spec hashed_indices.encoding k.spec v.spec k.format
    v.format hashes.native load_factor)
