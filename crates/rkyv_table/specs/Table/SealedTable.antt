-- The effects on a table of a write of one item in place.
use Rattle.std.specs.Prelude.{◌≡◌, ◌≢◌, ℕ, ◌+◌, ◌*◌, List, Bool}
use Rattle.std.specs.Int.{Width, byte_len}
use Rattle.rkyv_base.specs.{AgreeOn, ElementSpec, ModifiesOnly, StaysValid, ValidAt, entry_spec}
use Rattle.rkyv_base.specs.{value_pos}
use Rattle.rkyv_scan.specs.{Kind}
use Rattle.rkyv_table.specs.Table.Positions.{IsWalked, WrittenAt, bucket_found, item_at}
use Rattle.rkyv_table.specs.Table.Positions.{table_controls}
use Rattle.rkyv_table.specs.Table.Layout.{table_spec}

-- `b` and `c` have the same bytes of the value at `q` and its parts
pub record SameValue (s : ElementSpec) (b c : List ℕ) (q : ℕ) : Type 0 where
  pub fixed : AgreeOn b c q (q + s.size)
  pub parts : (l : ℕ) → s.is_valid b q 0 q l → AgreeOn b c 0 l

-- `fits` of a key depends only on the bytes on which the validity of the key depends
abbrev pub RestsOnKey : ElementSpec → (List ℕ → ℕ → Bool) → Type 0
RestsOnKey k fits = (b c : List ℕ) (q : ℕ) → ValidAt k b q → SameValue k b c q
    → fits c q ≡ fits b q

-- the value of the key at `q` is written in place: only its own bytes change, and it stays valid
pub record WritesValue (k v : ElementSpec) (b c : List ℕ) (q : ℕ) : Type 0 where
  pub sealed : ModifiesOnly b (value_pos k v q) v.size c
  pub keeps : StaysValid v b c (value_pos k v q)

-- the table at `p` in `b` is valid in `c`. It has the same header, the same control bytes,
-- and the same bytes of each item but that in bucket `i`
pub record KeepsTable (w : Width) (s : ElementSpec) (b c : List ℕ) (p i : ℕ) : Type 0 where
  pub is_valid : StaysValid (table_spec w s) b c p
  pub header : AgreeOn b c p (p + 3 * byte_len w)
  pub controls : table_controls w c p ≡ table_controls w b p
  pub others : (j : ℕ) → IsWalked w b p j → j ≢ i → SameValue s b c (item_at w s.size b p j)

-- every write of only the item in bucket `i` that keeps it valid keeps the table
abbrev pub KeptByWrites : Width → ElementSpec → List ℕ → ℕ → ℕ → Type 0
KeptByWrites w s b p i = (c : List ℕ) → ModifiesOnly b (item_at w s.size b p i) s.size c
    → StaysValid s b c (item_at w s.size b p i) → KeepsTable w s b c p i

-- every write of only the value of the entry in bucket `i` that keeps it valid keeps the table
-- and the key
abbrev pub KeptByValueWrites : Width → ElementSpec → ElementSpec → List ℕ → ℕ → ℕ → Type 0
KeptByValueWrites w k v b p i =
    (c : List ℕ) → ModifiesOnly b (value_pos k v (item_at w (entry_spec k v).size b p i)) v.size c
    → StaysValid v b c (value_pos k v (item_at w (entry_spec k v).size b p i))
    → KeepsTable w (entry_spec k v) b c p i
    × SameValue k b c (item_at w (entry_spec k v).size b p i)

-- each lookup finds the same bucket in `b` and `c`, at the same position. A written table is still
-- one
pub record SameLookups (w : Width) (s : ElementSpec) (b c : List ℕ) (p : ℕ) : Type 0 where
  pub found : (kind : Kind) (hash : ℕ) (accept : ℕ → Bool)
      → bucket_found kind w s.size c p hash accept ≡ bucket_found kind w s.size b p hash accept
  pub pos : (i : ℕ) → item_at w s.size c p i ≡ item_at w s.size b p i
  pub written : (hashes homes : List ℕ) → WrittenAt w b p hashes homes
      → WrittenAt w c p hashes homes
