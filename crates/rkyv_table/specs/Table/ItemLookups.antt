-- Lookups of the items of a table and walks over it, in terms of the positions of items.
use Rattle.std.specs.Prelude.{◌≡◌, ℕ, ◌<◌, ◌^◌, Bool, true, List, Option, filter}
use Rattle.std.specs.Int.{Width}
use Rattle.std.specs.Option.{option_to_list}
use Rattle.rkyv_scan.specs.{generic_kind}
use Rattle.rkyv_base.specs.{ElementSpec, Viewable}
use Rattle.rkyv_table.specs.Controls.Placing.{walk}
use Rattle.rkyv_table.specs.Table.Header.{cap_at, len_at}
use Rattle.rkyv_table.specs.Table.Layout.{table_spec}
use Rattle.rkyv_table.specs.Table.Misplaced.{all_strides, misplaced}
use Rattle.rkyv_table.specs.Table.Positions.{IsWalked, item_at, item_positions, pos_found}
use Rattle.rkyv_table.specs.Table.Positions.{table_controls}
use Rattle.rkyv_table.specs.Table.WalkLaws.{VisitsHomes}

module _ (w : Width) (b : List ℕ) (p : ℕ) where
  -- the full buckets of the table at `p`, in ascending order
  abbrev pub full_buckets : List ℕ
  full_buckets = walk (table_controls w b p) (cap_at w b p)

  -- a walk over the table at `p` visits each of these buckets once, in ascending order, and no
  -- other
  abbrev pub WalkVisits : List ℕ → Type 0
  WalkVisits homes = VisitsHomes (cap_at w b p) homes (table_controls w b p)

-- the table at `p` has the same control bytes in `b` and in `c`
abbrev pub HasSameControls : Width → List ℕ → List ℕ → ℕ → Type 0
HasSameControls w b c p = table_controls w c p ≡ table_controls w b p

module _ (w : Width) (size : ℕ) (b : List ℕ) (p : ℕ) where
  -- the table at `p` has an item at `q`
  abbrev pub HasItemAt : ℕ → Type 0
  HasItemAt q = (i : ℕ) × IsWalked w b p i × (q ≡ item_at w size b p i)

  -- the position of the item that a lookup finds. `accept`: the item at a position is accepted
  abbrev pub item_found : ℕ → (ℕ → Bool) → Option ℕ
  item_found hash accept = pos_found generic_kind w size b p hash accept

  -- `found`: position of the only accepted item, or `None` if no item is accepted
  abbrev pub IsOnlyAccepted : (ℕ → Bool) → Option ℕ → Type 0
  IsOnlyAccepted accept found = filter accept (item_positions w size b p) ≡ option_to_list found

  module _ (hash_of : ℕ → ℕ) (same : ℕ → ℕ → Bool) where
    -- The number of items for which a lookup of their own finds another item, or none.
    -- `hash_of`: hash of the item at a position, `same`: the items at two positions are the same
    abbrev pub misplaced_items : ℕ
    misplaced_items =
        misplaced generic_kind (table_controls w b p) (cap_at w b p) (len_at w b p)
        (λ i. hash_of (item_at w size b p i))
        (λ i j. same (item_at w size b p i) (item_at w size b p j))

    -- the number of strides that the lookups of all items read
    abbrev pub item_strides : ℕ
    item_strides =
        all_strides generic_kind (table_controls w b p) (cap_at w b p) (len_at w b p)
        (λ i. hash_of (item_at w size b p i))
        (λ i j. same (item_at w size b p i) (item_at w size b p j))

-- If no item is misplaced, a lookup finds the only accepted item. Each accepted item has the hash
-- of the lookup, and the accepted items are those that are the same as it
abbrev pub FindsOnlyItem : Width → ElementSpec → Type 0
FindsOnlyItem w s =
    (b : List ℕ) (p hash : ℕ) (accept : ℕ → Bool) (hash_of : ℕ → ℕ) (same : ℕ → ℕ → Bool)
    → Viewable (table_spec w s) b p → hash < 2 ^ 64
    → misplaced_items w s.size b p hash_of same ≡ 0
    → ((q : ℕ) → HasItemAt w s.size b p q → accept q ≡ true → hash_of q ≡ hash)
    → ((q r : ℕ) → HasItemAt w s.size b p q → HasItemAt w s.size b p r → accept q ≡ true
    → accept r ≡ same q r)
    → IsOnlyAccepted w s.size b p accept (item_found w s.size b p hash accept)
