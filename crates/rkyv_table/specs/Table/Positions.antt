-- The positions of a table's control bytes and items, and the position that a lookup finds.
use Rattle.std.specs.Prelude.{◌≡◌, ℕ, ◌+◌, ◌-◌, ◌*◌, ◌<◌, ◌⊎◌, List, [], Bool, Option}
use Rattle.std.specs.Prelude.{length, map, slice_range}
use Rattle.std.specs.Int.{Width}
use Rattle.std.specs.Option.{option_map}
use Rattle.rkyv_scan.specs.{Kind}
use Rattle.rkyv_table.specs.Controls.ControlBytes.{IsFullBucket}
use Rattle.rkyv_table.specs.Controls.Finding.{probe_length, found}
use Rattle.rkyv_table.specs.Table.Header.{cap_at, controls_pos, len_at}
use Rattle.rkyv_table.specs.Controls.Laws.{AreHashes}
use Rattle.rkyv_table.specs.Controls.Numbers.{control_count}
use Rattle.rkyv_table.specs.Controls.Placing.{AreWrittenControls, walk}

-- the control bytes of the table whose header is at `p`
abbrev pub table_controls : Width → List ℕ → ℕ → List ℕ
table_controls w b p = slice_range b (controls_pos w b p) (controls_pos w b p
    + control_count (cap_at w b p))

-- the position of the item in bucket `i`
abbrev pub item_at : Width → ℕ → List ℕ → ℕ → ℕ → ℕ
item_at w size b p i = controls_pos w b p - (i + 1) * size

-- bucket `i` is full
abbrev pub IsWalked : Width → List ℕ → ℕ → ℕ → Type 0
IsWalked w b p i = IsFullBucket (cap_at w b p) (table_controls w b p) i

-- the positions of the items, in bucket order
abbrev pub item_positions : Width → ℕ → List ℕ → ℕ → List ℕ
item_positions w size b p = map (item_at w size b p) (walk (table_controls w b p) (cap_at w b p))

-- the bucket that a lookup finds, if `accept` is the comparison by positions of items
abbrev pub bucket_found : Kind → Width → ℕ → List ℕ → ℕ → ℕ → (ℕ → Bool) → Option ℕ
bucket_found kind w size b p hash accept =
    found kind (table_controls w b p) (cap_at w b p) (len_at w b p) hash (λ i.
    accept (item_at w size b p i))

-- the number of the stride at which a lookup ends, if `accept` is the comparison by positions
abbrev pub probe_length_at : Kind → Width → ℕ → List ℕ → ℕ → ℕ → (ℕ → Bool) → ℕ
probe_length_at kind w size b p hash accept =
    probe_length kind (table_controls w b p) (cap_at w b p) (len_at w b p) hash (λ i.
    accept (item_at w size b p i))

-- the position of the item that a lookup finds
abbrev pub pos_found : Kind → Width → ℕ → List ℕ → ℕ → ℕ → (ℕ → Bool) → Option ℕ
pos_found kind w size b p hash accept =
    option_map (item_at w size b p) (bucket_found kind w size b p hash accept)

-- the table at `p` was written of items under `hashes`, in this order, with the home buckets
-- `homes`. Its length is their number, and it is empty or has written control bytes
pub record WrittenAt (w : Width) (b : List ℕ) (p : ℕ) (hashes homes : List ℕ) : Type 0 where
  pub count : len_at w b p ≡ length hashes
  pub fit : AreHashes hashes
  pub placed : ((hashes ≡ []) × (homes ≡ []))
      ⊎ ((length hashes < cap_at w b p)
      × AreWrittenControls (cap_at w b p) hashes homes (table_controls w b p))

-- the positions of items with these home buckets, in insertion order
abbrev pub home_positions : Width → ℕ → List ℕ → ℕ → List ℕ → List ℕ
home_positions w size b p homes = map (item_at w size b p) homes
