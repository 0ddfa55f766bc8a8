-- Index maps with a value that is written among its parts, as a map that is a value.
use Rattle.std.specs.Prelude.{◌≡◌, ◌≢◌, ℕ, ◌+◌, ◌*◌, ◌<◌, ◌^◌, Bool, List}
use Rattle.std.specs.Int.{Width, byte_len}
use Rattle.rkyv_base.specs.{AgreeOn, ElementSpec, Viewable, entry_spec, number_at, value_pos}
use Rattle.rkyv_table.specs.{HasItemAt, HasSameControls, RestsOnParts, StaysAt, WritesAmongParts}
use Rattle.rkyv_table.specs.{WritesValue, len_at}
use Rattle.rkyv_index.specs.Map.{fits_in, index_found}
use Rattle.rkyv_index.specs.Map.IndexFormat.{IndexWrittenAt}
use Rattle.rkyv_index.specs.Map.IndexLayout.{index_spec}
use Rattle.rkyv_index.specs.Map.ValueWrites.{pair_at}

module _ (w : Width) (k v : ElementSpec) where
  -- The index map at `p` in `b`, after a write among the parts of the value at index `i`, is an
  -- index map in `c`. Its header, its control bytes, its indices, the positions of its pairs,
  -- all keys and all other values are unchanged. Each lookup that depends only on the key
  -- and its parts finds the same index. A written index map is still one,
  -- and the write is among the parts of the index map
  pub record KeepsOuterIndexMap (key_hash : List ℕ → ℕ → ℕ) (b c : List ℕ) (p i : ℕ) : Type 0 where
    pub valid : Viewable (index_spec w (entry_spec k v)) c p
    pub nested : WritesAmongParts (index_spec w (entry_spec k v)) b c p
    pub header : AgreeOn b c p (p + 4 * byte_len w)
    pub controls : HasSameControls w b c p
    pub indices : (q : ℕ) → HasItemAt w (byte_len w) b p q → number_at w c q ≡ number_at w b q
    pub positions : (j : ℕ) → pair_at w k v c p j ≡ pair_at w k v b p j
    pub keys : (j : ℕ) → j < len_at w b p → StaysAt k b c (pair_at w k v b p j)
    pub values : (j : ℕ) → j < len_at w b p → j ≢ i
        → StaysAt v b c (value_pos k v (pair_at w k v b p j))
    pub hashes : (j : ℕ) → j < len_at w b p
        → key_hash c (pair_at w k v b p j) ≡ key_hash b (pair_at w k v b p j)
    pub lookups : (hash : ℕ) (fits : List ℕ → ℕ → Bool) → hash < 2 ^ 64 → RestsOnParts k fits
        → index_found w c p hash (fits_in w k v c p fits)
        ≡ index_found w b p hash (fits_in w k v b p fits)
    pub written : (homes : List ℕ)
        → IndexWrittenAt w (entry_spec k v).size key_hash b p homes
        → IndexWrittenAt w (entry_spec k v).size key_hash c p homes

  -- a write of one value in place is a write among the parts of the index map
  abbrev pub ValueWritesAreNested : Type 0
  ValueWritesAreNested = (b c : List ℕ) (p i : ℕ)
      → Viewable (index_spec w (entry_spec k v)) b p → i < len_at w b p
      → WritesValue k v b c (pair_at w k v b p i)
      → WritesAmongParts (index_spec w (entry_spec k v)) b c p

  -- a write among the parts of the value at an index keeps the index map
  abbrev pub NestedWritesKeepIndexMaps : (List ℕ → ℕ → ℕ) → Type 0
  NestedWritesKeepIndexMaps key_hash = (b c : List ℕ) (p i : ℕ)
      → Viewable (index_spec w (entry_spec k v)) b p → i < len_at w b p
      → WritesAmongParts v b c (value_pos k v (pair_at w k v b p i))
      → KeepsOuterIndexMap key_hash b c p i
