-- Lookups in a table that is read, as lookups in its bytes.
use Rattle.std.specs.Prelude.{ℕ, Bool, Option}
use Rattle.rkyv_base.specs.{pos_of_found}
use Rattle.rkyv_base.specs.declared.element.HasSpec.{Ghosts as Specs}
use Rattle.rkyv_base.specs.declared.view.View.{View}
use Rattle.rkyv_base.specs.declared.width.Word.{Ghosts as Words}
use Rattle.rkyv_scan.specs.{Kind}
use Rattle.rkyv_table.specs.declared.table.ArchivedHashTable.{ArchivedHashTable}
use Rattle.rkyv_table.specs.Table.Bare.{LooksUp, ReadsExactly}
use Rattle.rkyv_table.specs.Table.Reading.{CountsStrides, FindsItem, table_bytes, table_pos}

-- each result of a lookup in a table is one of a lookup in its bytes, and so is the number
-- of strides that the lookup reads. `post`: results of the comparison
pub record LooksUpInBytes {T W : Type 0} (ts : Specs T) (wt : Words W)
    (post : View T → Bool → Type 0) : Type 0 where
  pub found : (kind : Kind) (t : ArchivedHashTable T W ts wt) (hash : ℕ) (result : Option (View T))
      → FindsItem post kind t hash result
      → LooksUp post kind wt.word ts.spec (table_bytes t) (table_pos t) hash (pos_of_found result)
  pub strides : (kind : Kind) (t : ArchivedHashTable T W ts wt) (hash count : ℕ)
      → CountsStrides post kind t hash 0 count
      → ReadsExactly post kind wt.word ts.spec (table_bytes t) (table_pos t) hash count
