-- Each result of a lookup in a table is one of a lookup in its bytes.
use Rattle.std.proofs.Common.{ℕ, refl, Bool, None, Option, Some}
use Rattle.rkyv_base.specs.{pos_of_found}
use Rattle.rkyv_base.specs.declared.element.HasSpec.{Ghosts as Specs}
use Rattle.rkyv_base.specs.declared.view.View.{View}
use Rattle.rkyv_base.specs.declared.width.Word.{Ghosts as Words}
use Rattle.rkyv_scan.specs.{Kind}
use Rattle.rkyv_table.specs.{FindsItem, LooksUp, LooksUpInBytes, table_bytes, table_pos}
use Rattle.rkyv_table.specs.declared.table.ArchivedHashTable.{ArchivedHashTable}
use Rattle.rkyv_table.proofs.Bare.{looks_up_none, looks_up_some, reads_exactly}

module _ {T W : Type 0} {ts : Specs T} {wt : Words W} (post : View T → Bool → Type 0) where
  item_looked_up : (kind : Kind) (t : ArchivedHashTable T W ts wt) (hash : ℕ) (result : Option (View T)) → FindsItem post kind t hash result
      → LooksUp post kind wt.word ts.spec (table_bytes t) (table_pos t) hash (pos_of_found result)
  item_looked_up kind t hash None is = looks_up_none (table_bytes t) (table_pos t) t refl refl post kind hash is.finds is.first
  item_looked_up kind t hash (Some v) is = looks_up_some (table_bytes t) (table_pos t) t refl refl post kind hash v.pos is.finds is.first (v, is.walked, refl, is.accepted)

  pub looked_up_in_bytes : LooksUpInBytes ts wt post
  looked_up_in_bytes = record {
    found = item_looked_up;
    strides = λ kind t hash count counts. reads_exactly (table_bytes t) (table_pos t) t refl refl post kind hash 0 count refl counts;
  }
