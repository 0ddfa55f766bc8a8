-- The bytes of a valid index map of entries of a spec, and the first fault of other bytes.
use Rattle.std.specs.Prelude.{◌≡◌, ℕ, ◌+◌, ◌*◌, ◌<◌, ◌≤◌, ◌⊎◌, ℤ, pos, ◌+ℤ◌, List, [], ◌∷◌}
use Rattle.std.specs.Prelude.{unsigned_abs}
use Rattle.std.specs.Int.{Width, byte_len}
use Rattle.std.specs.List.{All, range_with_len}
use Rattle.rkyv_base.specs.declared.errors.VerifyError.{VerifyError}
use Rattle.rkyv_base.specs.declared.errors.VerifyError.TheVariants.{PlaceOutOfRange}
use Rattle.rkyv_base.specs.{ElementSpec, PartFails, PartIn, number_at, signed_at}
use Rattle.rkyv_table.specs.{AreValidAt, FirstFails, IsValidTable, TableFails, item_positions}
use Rattle.rkyv_table.specs.{len_at}

-- the spec of an index in a bucket: one word, which is always valid
abbrev pub stored_index_spec : Width → ElementSpec
stored_index_spec w = record {
  size = byte_len w;
  align = byte_len w;
  is_valid = λ b p lo hi l. l ≡ lo;
  fails = λ b p lo hi e. ⊥;
}

-- the position of the distance to the entries
abbrev pub distance_pos : Width → ℕ → ℕ
distance_pos w p = p + 3 * byte_len w

-- the position at which the entries of the map at `p` begin, by the distance in the header
abbrev pub decode_entries : Width → List ℕ → ℕ → ℤ
decode_entries w b p = pos (distance_pos w p) +ℤ signed_at w b (distance_pos w p)

-- the position of entry `i` of contiguous entries from `begin` on
abbrev pub entry_at : ℕ → ℕ → ℕ → ℕ
entry_at size begin i = begin + i * size

-- the position at which the entries of a valid map at `p` begin
abbrev pub entries_pos : Width → List ℕ → ℕ → ℕ
entries_pos w b p = unsigned_abs (decode_entries w b p)

-- the position of the pair at index `i` of the map at `p`
abbrev pub pair_pos : Width → ℕ → List ℕ → ℕ → ℕ → ℕ
pair_pos w size b p i = entry_at size (entries_pos w b p) i

-- the indices of `len` entries, in order
abbrev pub indices_of : ℕ → List ℕ
indices_of len = range_with_len 0 len

-- the `count` indices from position `begin` on are below `n`
abbrev pub AreBelow : Width → List ℕ → ℕ → ℕ → ℕ → Type 0
AreBelow w b begin count n =
    (i : ℕ) → i < count → number_at w b (begin + i * byte_len w) < n

-- the index at each of the positions `qs` is below `n`
abbrev pub IndicesBelow : Width → List ℕ → ℕ → List ℕ → Type 0
IndicesBelow w b n qs = All (λ q. number_at w b q < n) qs

-- `e`: error for the first position of `qs` whose index isn't below `n`
abbrev pub FirstNotBelow : Width → List ℕ → ℕ → List ℕ → VerifyError → Type 0
FirstNotBelow w b n [] e = ⊥
FirstNotBelow w b n (q ∷ qs) e =
    ((n ≤ number_at w b q) × (e ≡ PlaceOutOfRange (number_at w b q) n))
    ⊎ ((number_at w b q < n) × FirstNotBelow w b n qs e)

-- the entries are valid in order, with their parts from `lo` to `begin`
abbrev pub AreValidEntries : ElementSpec → List ℕ → ℕ → ℕ → ℕ → ℕ → Type 0
AreValidEntries s b begin len lo l =
    AreValidAt s (entry_at s.size begin) b begin (indices_of len) lo l

-- `len` valid entries in a part that begins at `decoded`, inside the range from `lo` to `hi`.
-- `l`: end of the part, and lower end of the next one
pub record EntriesIn (s : ElementSpec) (b : List ℕ) (decoded : ℤ) (len lo hi l : ℕ) : Type 0 where
  pub begin : ℕ
  pub part : PartIn decoded (len * s.size) s.align lo hi begin
  pub last : ℕ
  pub valid : AreValidEntries s b begin len lo last
  pub ends : l ≡ begin + len * s.size

-- `e`: fault of the part, or else the first fault of an entry
abbrev pub EntriesFail : ElementSpec → List ℕ → ℤ → ℕ → ℕ → ℕ → VerifyError → Type 0
EntriesFail s b decoded len lo hi e =
    PartFails decoded (len * s.size) s.align lo hi e
    ⊎ ((begin : ℕ) × PartIn decoded (len * s.size) s.align lo hi begin × FirstFails s
    (entry_at s.size begin) b begin (indices_of len) lo e)

-- a valid index map at `p`: a table of indices below its length, and as many valid entries
pub record IsValidIndex (w : Width) (s : ElementSpec) (b : List ℕ) (p lo hi l : ℕ) : Type 0 where
  pub middle : ℕ
  pub table : IsValidTable w (stored_index_spec w) b p lo hi middle
  pub below : IndicesBelow w b (len_at w b p) (item_positions w (byte_len w) b p)
  pub entries : EntriesIn s b (decode_entries w b p) (len_at w b p) middle hi l

-- `e`: fault of the table, or else of an index, or else of the entries
abbrev pub IndexFails : Width → ElementSpec → List ℕ → ℕ → ℕ → ℕ → VerifyError → Type 0
IndexFails w s b p lo hi e =
    TableFails w (stored_index_spec w) b p lo hi e
    ⊎ ((middle : ℕ) × IsValidTable w (stored_index_spec w) b p lo hi middle
    × (FirstNotBelow w b (len_at w b p) (item_positions w (byte_len w) b p) e
    ⊎ (IndicesBelow w b (len_at w b p) (item_positions w (byte_len w) b p) × EntriesFail s b
    (decode_entries w b p) (len_at w b p) middle hi e)))

-- the spec of an index map of entries of spec `s`: a header of four words
abbrev pub index_spec : Width → ElementSpec → ElementSpec
index_spec w s = record {
  size = 4 * byte_len w;
  align = byte_len w;
  is_valid = IsValidIndex w s;
  fails = IndexFails w s;
}
