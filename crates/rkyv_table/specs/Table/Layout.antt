-- The condition for bytes to be a valid table, and the first fault of other bytes.
use Rattle.std.specs.Prelude.{◌≡◌, ◌≢◌, ℕ, ◌+◌, ◌-◌, ◌*◌, ◌<◌, ◌≤◌, ◌⊎◌, ℤ, List, length}
use Rattle.std.specs.Prelude.{slice_range}
use Rattle.std.specs.Int.{Width, byte_len}
use Rattle.rkyv_base.specs.declared.errors.VerifyError.{VerifyError}
use Rattle.rkyv_base.specs.declared.errors.VerifyError.TheVariants.{InvalidLength}
use Rattle.rkyv_base.specs.declared.errors.VerifyError.TheVariants.{WrongNumberOfElements}
use Rattle.rkyv_base.specs.declared.errors.VerifyError.TheVariants.{UnwrappedControlByte}
use Rattle.rkyv_base.specs.{ElementSpec, PartFails, PartIn}
use Rattle.rkyv_table.specs.Table.Header.{cap_at, decode_begin, len_at}
use Rattle.rkyv_table.specs.Controls.Numbers.{control_count}
use Rattle.rkyv_table.specs.Table.ValidItems.{AreValidAt, FirstFails}
use Rattle.rkyv_table.specs.Controls.Placing.{AreValidControls, walk}
use Rattle.rkyv_table.specs.Controls.Wrapping.{FirstUnwrapped}

-- the number of bytes of the buckets and the control bytes
abbrev pub part_size : ℕ → ℕ → ℕ
part_size size cap = cap * size + control_count cap

-- the control bytes of a table whose buckets begin at `begin`
abbrev pub controls_at : ℕ → List ℕ → ℕ → ℕ → List ℕ
controls_at size b begin cap =
    slice_range b (begin + cap * size) (begin + cap * size + control_count cap)

-- the position of bucket `i`. The buckets are in order from the highest to bucket 0
abbrev pub bucket_at : ℕ → ℕ → ℕ → ℕ → ℕ
bucket_at size begin cap i = begin + (cap - (i + 1)) * size

-- the items in the full buckets are valid in bucket order, with their parts from `lo`
-- on and below `begin`
abbrev pub AreValidItems : ElementSpec → List ℕ → ℕ → ℕ → ℕ → ℕ → Type 0
AreValidItems s b begin cap lo l =
    AreValidAt s (bucket_at s.size begin cap) b begin
    (walk (controls_at s.size b begin cap) cap) lo l

-- the buckets and control bytes at `begin` are valid: there are `len` items,
-- and each item is valid
pub record IsPart (s : ElementSpec) (b : List ℕ) (cap len lo begin : ℕ) : Type 0 where
  pub controls : AreValidControls cap len (controls_at s.size b begin cap)
  pub last : ℕ
  pub items : AreValidItems s b begin cap lo last

-- `e`: first fault of the buckets and control bytes: an item's fault, or else of the number
-- of items, or else of a control byte after the buckets' control bytes
abbrev pub FailsInside : ElementSpec → List ℕ → ℕ → ℕ → ℕ → ℕ → VerifyError → Type 0
FailsInside s b cap len lo begin e =
    FirstFails s (bucket_at s.size begin cap) b begin (walk (controls_at s.size b begin cap) cap) lo
    e
    ⊎ ((last : ℕ) × AreValidItems s b begin cap lo last
    × (((length (walk (controls_at s.size b begin cap) cap) ≢ len)
    × (e
    ≡ WrongNumberOfElements len
    (length (walk (controls_at s.size b begin cap) cap))))
    ⊎ ((length (walk (controls_at s.size b begin cap) cap) ≡ len) × (q : ℕ)
    × FirstUnwrapped cap (controls_at s.size b begin cap) q
    × (e ≡ UnwrappedControlByte q))))

-- a valid table with these numbers in its header, and `l` as the new lower end. A table
-- with the length 0 and the capacity 0 has no part
abbrev pub TableAt : ElementSpec → List ℕ → ℤ → ℕ → ℕ → ℕ → ℕ → ℕ → Type 0
TableAt s b decoded cap len lo hi l =
    ((len ≡ 0) × (cap ≡ 0) × (l ≡ lo))
    ⊎ ((begin : ℕ) × PartIn decoded (part_size s.size cap) s.align lo hi begin
    × IsPart s b cap len lo begin × (l ≡ begin + part_size s.size cap))

-- `e`: first fault of a table. The length isn't below the capacity and they aren't both 0,
-- or else the part isn't in the range, or else it has a fault inside
abbrev pub TableFailsAt : ElementSpec → List ℕ → ℤ → ℕ → ℕ → ℕ → ℕ → VerifyError → Type 0
TableFailsAt s b decoded cap len lo hi e =
    ((cap ≤ len) × (0 < len) × (e ≡ InvalidLength len cap))
    ⊎ ((len < cap) × PartFails decoded (part_size s.size cap) s.align lo hi e)
    ⊎ ((len < cap) × (begin : ℕ) × PartIn decoded (part_size s.size cap) s.align lo hi begin
    × FailsInside s b cap len lo begin e)

-- the header at `p` is the header of a valid table
abbrev pub IsValidTable : Width → ElementSpec → List ℕ → ℕ → ℕ → ℕ → ℕ → Type 0
IsValidTable w s b p lo hi l =
    TableAt s b (decode_begin w s.size b p) (cap_at w b p) (len_at w b p) lo hi l

-- `e`: first fault of the table whose header is at `p`
abbrev pub TableFails : Width → ElementSpec → List ℕ → ℕ → ℕ → ℕ → VerifyError → Type 0
TableFails w s b p lo hi e = TableFailsAt s b (decode_begin w s.size b p) (cap_at w b p)
    (len_at w b p) lo hi e

-- the header of a table of items of the spec `s`: three words
abbrev pub table_spec : Width → ElementSpec → ElementSpec
table_spec w s = record {
  size = 3 * byte_len w;
  align = byte_len w;
  is_valid = IsValidTable w s;
  fails = TableFails w s;
}

-- the buckets and the control bytes of a valid table whose header has buckets
pub record ValidPart (w : Width) (s : ElementSpec) (b : List ℕ) (p lo hi l : ℕ) : Type 0 where
  pub begin : ℕ
  pub part : PartIn (decode_begin w s.size b p) (part_size s.size
      (cap_at w b p)) s.align lo hi begin
  pub is : IsPart s b (cap_at w b p) (len_at w b p) lo begin
  pub ends : l ≡ begin + part_size s.size (cap_at w b p)
