-- Valid tables: their items, and the results of lookups.
use Rattle.std.specs.Prelude.{◌≡◌, ℕ, ◌/◌, List, Bool, true}
use Rattle.std.specs.Prelude.{IfSome, Option}
use Rattle.std.specs.List.{find}
use Rattle.std.specs.Borrow.{Bor}
use Rattle.rkyv_base.specs.{IsValidView, archive_of, bytes_of, pos_of, pos_of_found}
use Rattle.rkyv_base.specs.declared.view.View.{View}
use Rattle.rkyv_base.specs.declared.element.HasSpec.{Ghosts as Specs}
use Rattle.rkyv_base.specs.declared.width.Word.{Ghosts as Words}
use Rattle.rkyv_scan.specs.{Kind}
use Rattle.rkyv_table.specs.Controls.Finding.{ReadsWithin, count_after}
use Rattle.rkyv_table.specs.Table.Header.{cap_at, len_at}
use Rattle.rkyv_table.specs.Controls.Laws.{IsUnderHash}
use Rattle.rkyv_table.specs.Controls.Numbers.{probe_capacity}
use Rattle.rkyv_table.specs.declared.table.ArchivedHashTable.{ArchivedHashTable}
use Rattle.rkyv_table.specs.declared.table.TableOf.{TableOf}
use Rattle.rkyv_table.specs.declared.table.decoded.Decoded.{Decoded}
use Rattle.rkyv_table.specs.Table.Positions.{IsWalked, WrittenAt, home_positions, item_at}
use Rattle.rkyv_table.specs.Table.Positions.{probe_length_at, pos_found}

module _ {T W : Type 0} {ts : Specs T} {wt : Words W} where
  -- the view of the table's header
  abbrev pub table_view : ArchivedHashTable T W ts wt → View (TableOf T W)
  table_view t = t.view

  -- the decoded header of the table
  abbrev pub table_header : ArchivedHashTable T W ts wt → Decoded
  table_header t = t.header

  -- the reference to the archive of the table
  abbrev pub table_archive : ArchivedHashTable T W ts wt → Bor (List ℕ)
  table_archive t = archive_of t.view

  -- the archive of the table
  abbrev pub table_bytes : ArchivedHashTable T W ts wt → List ℕ
  table_bytes t = bytes_of t.view

  -- the position of the table's header
  abbrev pub table_pos : ArchivedHashTable T W ts wt → ℕ
  table_pos t = pos_of t.view

  -- the position of the item in bucket `i`
  abbrev pub item_pos : ArchivedHashTable T W ts wt → ℕ → ℕ
  item_pos t i = item_at wt.word ts.spec.size (table_bytes t) (table_pos t) i

  -- bucket `i` of the table is full
  abbrev pub IsFullIn : ArchivedHashTable T W ts wt → ℕ → Type 0
  IsFullIn t i = IsWalked wt.word (table_bytes t) (table_pos t) i

  -- `v`: view of the item in bucket `i` of the table
  pub record IsItemIn (t : ArchivedHashTable T W ts wt) (i : ℕ) (v : View T) : Type 0 where
    pub archive : archive_of v ≡ table_archive t
    pub viewable : IsValidView ts.spec v
    pub walked : IsFullIn t i
    pub pos : pos_of v ≡ item_pos t i

  -- `v`: view of an item of the table
  abbrev pub IsItem : ArchivedHashTable T W ts wt → View T → Type 0
  IsItem t v = (i : ℕ) × IsItemIn t i v

  -- `q`: position of an item of the table
  abbrev pub IsItemPos : ArchivedHashTable T W ts wt → ℕ → Type 0
  IsItemPos t q = (i : ℕ) × IsFullIn t i × (q ≡ item_pos t i)

  -- the comparison can be called with each item
  abbrev pub CanCompare : (View T → Type 0) → ArchivedHashTable T W ts wt → Type 0
  CanCompare pre t = (v : View T) → IsItem t v → pre v

  module _ (post : View T → Bool → Type 0) where
    -- `q`: position of an item of the table for which the comparison returned `true`
    abbrev pub IsAcceptedAt : ArchivedHashTable T W ts wt → ℕ → Type 0
    IsAcceptedAt t q = (v : View T) × IsItem t v × (pos_of v ≡ q) × post v true

    -- the comparison returns `accept q` for the item at each position `q`
    abbrev pub ComparesBy : ArchivedHashTable T W ts wt → (ℕ → Bool) → Type 0
    ComparesBy t accept = (v : View T) (r : Bool) → IsItem t v → post v r → r ≡ accept (pos_of v)

    -- the position that a lookup finds in any table, if the comparison depends only on positions
    abbrev pub FindsFound : Kind → ArchivedHashTable T W ts wt → ℕ → Option ℕ → Type 0
    FindsFound kind t hash result =
        (accept : ℕ → Bool) → ComparesBy t accept → result
        ≡ pos_found kind wt.word ts.spec.size (table_bytes t) (table_pos t) hash accept

    -- the position that a lookup finds in a written table: the position of the first accepted item
    -- in insertion order. This is for a comparison by positions that accepts only items under
    -- `hash`
    abbrev pub FindsFirst : ArchivedHashTable T W ts wt → ℕ → Option ℕ → Type 0
    FindsFirst t hash result =
        (hashes homes : List ℕ) (accept : ℕ → Bool)
        → WrittenAt wt.word (table_bytes t) (table_pos t) hashes homes → ComparesBy t accept
        → IsUnderHash hash hashes
        (home_positions wt.word ts.spec.size (table_bytes t) (table_pos t) homes) accept
        → result
        ≡ find accept
        (home_positions wt.word ts.spec.size (table_bytes t) (table_pos t) homes)

    -- the lookup reads as many strides as the number of the one at which it ends
    abbrev pub CountsEnd : Kind → ArchivedHashTable T W ts wt → ℕ → ℕ → ℕ → Type 0
    CountsEnd kind t hash before after =
        (accept : ℕ → Bool) → ComparesBy t accept → after ≡ count_after before
        (probe_length_at kind wt.word ts.spec.size (table_bytes t) (table_pos t) hash accept)

    -- `result`: position of the item that a lookup finds
    pub record FindsItemPos (kind : Kind) (t : ArchivedHashTable T W ts wt) (hash : ℕ)
        (result : Option ℕ) : Type 0 where
      pub walked : IfSome result (IsItemPos t)
      pub accepted : IfSome result (IsAcceptedAt t)
      pub finds : FindsFound kind t hash result
      pub first : FindsFirst t hash result

  -- the lookup reads at most ceil(cap / 16) strides, whatever the comparison returns
  abbrev pub CountsWithin : ArchivedHashTable T W ts wt → ℕ → ℕ → Type 0
  CountsWithin t before after =
      ReadsWithin (len_at wt.word (table_bytes t) (table_pos t))
      (probe_capacity (cap_at wt.word (table_bytes t) (table_pos t)) / 16) before after

module _ {T W : Type 0} {ts : Specs T} {wt : Words W} (post : View T → Bool → Type 0)
    (kind : Kind) (t : ArchivedHashTable T W ts wt) (hash : ℕ) where
  -- `result`: view of the item that a lookup finds. It is an item of the table
  -- for which the comparison returned `true`. In any table the control bytes decide
  -- which one it is, and in a written table it is the first
  pub record FindsItem (result : Option (View T)) : Type 0 where
    pub walked : IfSome result (IsItem t)
    pub accepted : IfSome result (λ v. post v true)
    pub finds : FindsFound post kind t hash (pos_of_found result)
    pub first : FindsFirst post t hash (pos_of_found result)

  -- the number of strides that a lookup reads
  pub record CountsStrides (before after : ℕ) : Type 0 where
    pub bounded : CountsWithin t before after
    pub counted : CountsEnd post kind t hash before after
