-- The format of a table of a list of pairs of hash and item, and the list that a table represents.
use Rattle.std.specs.Prelude.{◌≡◌, ℕ, ◌^◌, ◌<◌, ◌⊎◌, pos, List, [], length, slice_get, slice_index}
use Rattle.std.specs.Prelude.{MatchResult, Option, Result, Some}
use Rattle.std.specs.Int.{Width}
use mir.Val.{bits}
use Rattle.rkyv_base.specs.{ElementSpec, Format, IsFormat, Step}
use Rattle.rkyv_table.specs.Table.Header.{HeaderOverflows, IsHeader, cap_at, decode_begin, len_at}
use Rattle.rkyv_table.specs.Controls.Laws.{AreHashes}
use Rattle.rkyv_table.specs.Controls.Numbers.{capacity}
use Rattle.rkyv_table.specs.Controls.Placing.{AreWrittenControls}
use Rattle.rkyv_table.specs.Table.Slots.{TableBytes, TableNext}
use Rattle.rkyv_table.specs.Table.Layout.{bucket_at, controls_at, table_spec}
use Rattle.rkyv_table.specs.Table.PlacedItems.{ArePlaced, hashes_of, items_of}

-- the resolver of a table. `pos`: position of its first control byte, or 0 if it is empty
pub record TableResolver : Type 0 where
  pub pos : ℕ
  pub len : ℕ
  pub load_factor : ℕ × ℕ

-- the resolver of `len` items under a load factor, with the first control byte at `z`
abbrev pub resolver_of : ℕ → ℕ × ℕ → ℕ → TableResolver
resolver_of len load_factor z = record { pos = z; len = len; load_factor = load_factor }

-- the number of buckets of the resolved table
abbrev pub resolved_capacity : TableResolver → ℕ
resolved_capacity r = capacity r.len r.load_factor

-- the bytes became the header at `p` of the table that `r` resolves; or the distance doesn't fit,
-- and they are unchanged
abbrev pub WritesHeader : {T E : Type 0} → Width → TableResolver → ℕ → List ℕ → List ℕ → Result T E
    → Type 0
WritesHeader w r p before after result = MatchResult result
    (λ _. IsHeader w r.len (resolved_capacity r) r.pos p after)
    (λ _. HeaderOverflows w r.len r.pos p × (after ≡ before))

-- the pairs are placed in as many buckets as they need
abbrev pub InBuckets : {X : Type 0} → ℕ × ℕ → List (ℕ × X) → List (Option X) → List ℕ → Type 0
InBuckets load_factor pairs slots controls =
    (0 < length pairs) × ArePlaced (capacity (length pairs) load_factor) pairs slots controls

module _ {X R : Type 0} (w : Width) (s : ElementSpec) (f : Format X R) (load_factor : ℕ × ℕ)
    (pairs : List (ℕ × X)) (p : ℕ) where
  -- `part`: bytes of the table, or none for no pairs, `z`: position of its first control byte.
  -- Each item is in its home bucket
  abbrev pub TableWritten : ℕ → List ℕ → Type 0
  TableWritten z part = ((pairs ≡ []) × (part ≡ []) × (z ≡ 0))
      ⊎ ((slots : List (Option X)) × (controls : List ℕ)
      × InBuckets load_factor pairs slots controls × TableBytes s f slots controls p z part)

  -- the table was written with the bytes `part`, and `r` is its resolver
  pub record TableParts (part : List ℕ) (r : TableResolver) : Type 0 where
    pub len : r.len ≡ length pairs
    pub factor : r.load_factor ≡ load_factor
    pub fits : resolved_capacity r < 2 ^ bits w
    pub written : TableWritten r.pos part

  -- `step`: next step of writing the table, after `front`
  abbrev pub PairsNext : List ℕ → Step → Type 0
  PairsNext front step = (slots : List (Option X)) × (controls : List ℕ)
      × InBuckets load_factor pairs slots controls × TableNext s f slots controls p front step

-- the format of a list of pairs of hash and item, in insertion order, as a table under
-- a load factor
abbrev pub table_format : {X R : Type 0} → Width → ElementSpec → Format X R → ℕ × ℕ
    → Format (List (ℕ × X)) TableResolver
table_format w s f load_factor = record {
  parts = TableParts w s f load_factor;
  next = PairsNext w s f load_factor;
  image = λ pairs r p out. IsHeader w r.len (resolved_capacity r) r.pos p out;
  overflow = λ pairs r p. HeaderOverflows w r.len r.pos p;
}

-- the buckets from `begin` on represent the pairs: the control bytes have the hashes,
-- and each item is in its home bucket
pub record BucketsRepresent {X : Type 0} (size : ℕ) (represents : List ℕ → ℕ → X
    → Type 0) (c : List ℕ) (cap begin : ℕ) (pairs : List (ℕ × X)) : Type 0 where
  pub homes : List ℕ
  pub hashes : AreHashes (hashes_of pairs)
  pub controls : AreWrittenControls cap (hashes_of pairs) homes (controls_at size c begin cap)
  pub items : (i : ℕ) (x : X) → slice_get (items_of pairs) i ≡ Some x
      → represents c (bucket_at size begin cap (slice_index homes i)) x

-- the table whose header is at `p` represents the pairs
pub record TableRepresents {X : Type 0} (w : Width) (s : ElementSpec) (represents : List ℕ → ℕ → X
    → Type 0) (load_factor : ℕ × ℕ) (c : List ℕ) (p : ℕ) (pairs : List (ℕ × X)) : Type 0 where
  pub len : len_at w c p ≡ length pairs
  pub cap : cap_at w c p ≡ capacity (length pairs) load_factor
  pub buckets : 0 < length pairs → (begin : ℕ) × (pos begin ≡ decode_begin w s.size c p)
      × BucketsRepresent s.size represents c (capacity (length pairs) load_factor) begin pairs

-- the format of a table is lawful: written tables are valid and represent their pairs
abbrev pub WrittenTablesRepresent : {X R : Type 0} → Width → ElementSpec → (List ℕ → ℕ → X → Type 0)
    → Format X R → ℕ × ℕ → Type 0
WrittenTablesRepresent w s represents f load_factor = IsFormat (table_spec w s)
    (TableRepresents w s represents load_factor) (table_format w s f load_factor)
