-- The result of a lookup that returns a seal.
use Rattle.rkyv_base.specs.declared.element.HasSpec.{Ghosts as Specs}
use Rattle.rkyv_base.specs.declared.width.Word.{Ghosts as Words}
use Rattle.std.specs.Prelude.{◌≡◌, ℕ, Bool, List, Option}
use Rattle.std.specs.Int.{Width}
use Rattle.std.specs.List.{find}
use Rattle.std.specs.Option.{option_map}
use Rattle.rkyv_base.specs.{ElementSpec, SealAt, Viewable, archive_in, archive_ref, pos_in}
use Rattle.rkyv_base.specs.{seal_pos}
use Rattle.rkyv_base.specs.declared.seal.ArchiveSeal.{ArchiveSeal}
use Rattle.rkyv_base.specs.declared.seal.Seal.{Seal}
use Rattle.rkyv_base.specs.declared.view.View.{View}
use Rattle.rkyv_scan.specs.{generic_kind}
use Rattle.rkyv_table.specs.Controls.Laws.{IsUnderHash}
use Rattle.rkyv_table.specs.Table.Positions.{IsWalked, WrittenAt, home_positions}
use Rattle.rkyv_table.specs.Table.Bare.{AcceptedOf, CanCompareOf, ComparesByOf}
use Rattle.rkyv_table.specs.Table.Positions.{item_at, pos_found}
use Rattle.rkyv_table.specs.Table.Reading.{table_bytes, table_pos}
use Rattle.rkyv_table.specs.Table.SealedTable.{KeptByWrites}
use Rattle.rkyv_table.specs.Table.Layout.{table_spec}
use Rattle.rkyv_table.specs.declared.table.ArchivedHashTable.{ArchivedHashTable}
use Rattle.rkyv_table.specs.declared.table.TableOf.{TableOf}

-- the archive has a valid table at the position of the seal
abbrev pub IsTableSeal : {T W : Type 0} → Width → ElementSpec → ArchiveSeal (TableOf T W) → Type 0
IsTableSeal w s a = Viewable (table_spec w s) (archive_in a) (pos_in a)

-- the table `t` is read at the seal `a`
abbrev pub IsReadAt : {T W : Type 0} {ts : Specs T} {wt : Words W} → ArchiveSeal (TableOf T W)
    → ArchivedHashTable T W ts wt → Type 0
IsReadAt a t = (table_bytes t ≡ archive_in a) × (table_pos t ≡ pos_in a)

-- the comparison can be called with each item
abbrev pub CanCompareAt : {T W : Type 0} → (View T → Type 0) → Width → ElementSpec
    → ArchiveSeal (TableOf T W)
    → Type 0
CanCompareAt pre w s a = CanCompareOf pre w s (archive_in a) (pos_in a)

-- the comparison returns `accept q` for the item at each position `q`
abbrev pub ComparesByAt : {T W : Type 0} → (View T → Bool → Type 0) → Width → ElementSpec
    → ArchiveSeal (TableOf T W) → (ℕ → Bool) → Type 0
ComparesByAt post w s a accept = ComparesByOf post w s (archive_in a) (pos_in a) accept

-- `x`: seal of an item of the table. Each write through only it that keeps the item valid keeps
-- the table
pub record IsItemSeal {T W : Type 0} (w : Width) (s : ElementSpec) (a : ArchiveSeal (TableOf T W))
    (x : Seal T) : Type 0 where
  pub bucket : ℕ
  pub walked : IsWalked w (archive_in a) (pos_in a) bucket
  pub at : SealAt x (archive_ref a) (item_at w s.size (archive_in a) (pos_in a) bucket)
  pub viewable : Viewable s (archive_in a) (seal_pos x)
  pub kept : KeptByWrites w s (archive_in a) (pos_in a) bucket

-- the position of a returned seal
abbrev pub pos_of_seal : {T : Type 0} → Option (Seal T) → Option ℕ
pos_of_seal seal = option_map seal_pos seal

-- `q`: position of an item for which the comparison returned `true`
abbrev pub AcceptedAt : {T W : Type 0} → (View T → Bool → Type 0) → Width → ElementSpec
    → ArchiveSeal (TableOf T W) → ℕ → Type 0
AcceptedAt post w s a q = AcceptedOf post w s (archive_in a) (pos_in a) q

-- the position that a lookup finds in any valid table, if the comparison depends only on positions
abbrev pub SealsFound : {T W : Type 0} → (View T → Bool → Type 0) → Width → ElementSpec
    → ArchiveSeal (TableOf T W) → ℕ → Option ℕ → Type 0
SealsFound post w s a hash result =
    (accept : ℕ → Bool) → ComparesByAt post w s a accept
    → result ≡ pos_found generic_kind w s.size (archive_in a) (pos_in a) hash accept

-- the position that a lookup finds in a written table: the position of the first accepted item
-- in insertion order. This is for a comparison by positions that accepts only items under `hash`
abbrev pub SealsFirst : {T W : Type 0} → (View T → Bool → Type 0) → Width → ElementSpec
    → ArchiveSeal (TableOf T W) → ℕ → Option ℕ → Type 0
SealsFirst post w s a hash result =
    (hashes homes : List ℕ) (accept : ℕ → Bool) → WrittenAt w (archive_in a) (pos_in a) hashes homes
    → ComparesByAt post w s a accept
    → IsUnderHash hash hashes (home_positions w s.size (archive_in a) (pos_in a) homes) accept
    → result ≡ find accept (home_positions w s.size (archive_in a) (pos_in a) homes)
