-- A lookup in the table that is read is one in the bytes of the seal.
use Rattle.rkyv_base.specs.declared.element.HasSpec.{Ghosts as Specs}
use Rattle.rkyv_base.specs.declared.width.Word.{Ghosts as Words}
use Rattle.std.proofs.Common.{arith, ◌≡◌, ℕ, ap, sym, subst, ◌∙◌, Bool, List, Option}
use Rattle.std.proofs.lemmas.Grind.{common_steps}
use Rattle.rkyv_base.specs.{IsElement, SealAt, Viewable, archive_in, bytes_of, pos_in, pos_of}
use Rattle.rkyv_base.specs.declared.seal.ArchiveSeal.{ArchiveSeal}
use Rattle.rkyv_base.specs.declared.seal.Seal.{Seal}
use Rattle.rkyv_base.specs.declared.view.View.{View}
use Rattle.rkyv_scan.specs.{generic_kind}
use Rattle.rkyv_table.specs.{FindsFirst, FindsFound, IsItemPos, IsItemSeal, IsReadAt, IsTableSeal, IsWalked, SealsFirst, SealsFound, item_at, pos_found}
use Rattle.rkyv_table.specs.declared.table.ArchivedHashTable.{ArchivedHashTable}
use Rattle.rkyv_table.specs.declared.table.TableOf.{TableOf}
use Rattle.rkyv_table.proofs.Bare.{compares_by_of}
use Rattle.rkyv_table.proofs.ValidTable.{item_viewable}
use Rattle.rkyv_table.proofs.SealedTable.{table_kept}

-- the table of a view of the seal is read at the seal
pub read_there : {T W : Type 0} {ts : Specs T} {wt : Words W} (a : ArchiveSeal (TableOf T W)) (t : ArchivedHashTable T W ts wt) (v : View (TableOf T W)) → t.view ≡ v → bytes_of v ≡ archive_in a → pos_of v ≡ pos_in a → IsReadAt a t
read_there a t v of bytes pos = (ap bytes_of of ∙ bytes, ap pos_of of ∙ pos)

module _ {T W : Type 0} {ts : Specs T} {wt : Words W} (law : IsElement ts.spec) (a : ArchiveSeal (TableOf T W)) (t : ArchivedHashTable T W ts wt) (read : IsReadAt a t) (table : IsTableSeal wt.word ts.spec a) where
  -- the position of a bucket of the table, in the bytes of the seal
  at_seal : (q : ℕ) → IsItemPos t q → (i : ℕ) × IsWalked wt.word (archive_in a) (pos_in a) i × (q ≡ item_at wt.word ts.spec.size (archive_in a) (pos_in a) i)
  at_seal q is = grind (arith, common_steps)

  pub pos_viewable : (q : ℕ) → IsItemPos t q → Viewable ts.spec (archive_in a) q
  pos_viewable q is = let k = at_seal q is in subst (Viewable ts.spec (archive_in a)) (sym k.2) (item_viewable wt.word ts.spec law (archive_in a) (pos_in a) table k.0 k.1)

  pub item_seal : (q : ℕ) (x : Seal T) → IsItemPos t q → SealAt x a.archive q → IsItemSeal wt.word ts.spec a x
  item_seal q x is at = grind (arith, common_steps, at_seal q is, pos_viewable q is, table_kept)

  module _ (post : View T → Bool → Type 0) (hash : ℕ) (result : Option ℕ) where
    pub seals_found : FindsFound post generic_kind t hash result → SealsFound post wt.word ts.spec a hash result
    seals_found found accept compares =
        let P = λ (b : List ℕ) (p : ℕ). result ≡ pos_found generic_kind wt.word ts.spec.size b p hash accept in
        subst (P (archive_in a)) read.1 (subst (λ b. P b t.view.pos) read.0 (found accept (compares_by_of (archive_in a) (pos_in a) t read.0 read.1 post accept compares)))

    pub seals_first : FindsFirst post t hash result → SealsFirst post wt.word ts.spec a hash result
    seals_first first hashes homes accept written compares under = grind (arith, common_steps, compares_by_of (archive_in a) (pos_in a) t read.0 read.1 post accept compares)
