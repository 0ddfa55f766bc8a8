-- Lookups in a table that is read are lookups in its bytes.
use Rattle.rkyv_base.specs.declared.element.HasSpec.{Ghosts as Specs}
use Rattle.rkyv_base.specs.declared.width.Word.{Ghosts as Words}
use Rattle.std.proofs.Common.{arith, ◌≡◌, ℕ, sym, subst, Bool, List, Option, None, Some}
use Rattle.std.proofs.lemmas.Grind.{common_steps}
use Rattle.std.specs.List.{find}
use Rattle.rkyv_base.specs.{IsElement, Viewable}
use Rattle.rkyv_base.specs.declared.view.View.{View}
use Rattle.rkyv_scan.specs.{Kind}
use Rattle.rkyv_table.specs.{AcceptedOf, ComparesBy, ComparesByOf, CountsStrides, FindsFirst, FindsFound, IsAcceptedAt, IsItem, IsItemAt, IsItemOf, IsItemPos, IsUnderHash, IsWalked, LooksUp, ReadsExactly, WrittenAt, home_positions, item_at, pos_found, probe_length_at, table_spec}
use Rattle.rkyv_table.proofs.Counts.{cap_small, counted_lookup}
use Rattle.rkyv_table.proofs.ValidTable.{item_viewable}
use Rattle.rkyv_table.proofs.SealedTable.{table_kept}
use Rattle.rkyv_table.specs.declared.table.ArchivedHashTable.{ArchivedHashTable}

module _ {T W : Type 0} {ts : Specs T} {wt : Words W} (b : List ℕ) (p : ℕ) (t : ArchivedHashTable T W ts wt) (bytes : t.view.archive.now ≡ b) (pos : t.view.pos ≡ p) where
  -- an item of the table is one of the bytes
  pub item_of : (v : View T) → IsItem t v → IsItemOf wt.word ts.spec b p v
  item_of v is = grind (arith, common_steps)

  module _ (post : View T → Bool → Type 0) where
    pub compares_by_of : (accept : ℕ → Bool) → ComparesByOf post wt.word ts.spec b p accept → ComparesBy post t accept
    compares_by_of accept compares v r is returned = compares v r (item_of v is) returned

    pub accepted_of : (q : ℕ) → IsAcceptedAt post t q → AcceptedOf post wt.word ts.spec b p q
    accepted_of q is = (is.0, item_of is.0 is.1, is.2, is.3)

    module _ (kind : Kind) (hash : ℕ) (found : Option ℕ) (finds : FindsFound post kind t hash found) where
      pub found_of : (accept : ℕ → Bool) → ComparesByOf post wt.word ts.spec b p accept → found ≡ pos_found kind wt.word ts.spec.size b p hash accept
      found_of accept compares =
          subst (λ q. found ≡ pos_found kind wt.word ts.spec.size b q hash accept) pos
          (subst (λ (c : List ℕ). found ≡ pos_found kind wt.word ts.spec.size c t.view.pos hash accept) bytes (finds accept (compares_by_of accept compares)))

      module _ (first : FindsFirst post t hash found) where
        pub first_of : (hashes homes : List ℕ) (accept : ℕ → Bool) → WrittenAt wt.word b p hashes homes → ComparesByOf post wt.word ts.spec b p accept
            → IsUnderHash hash hashes (home_positions wt.word ts.spec.size b p homes) accept → found ≡ find accept (home_positions wt.word ts.spec.size b p homes)
        first_of hashes homes accept written compares under = grind (arith, common_steps, compares_by_of accept compares)

    -- a lookup in the table has the same result in the bytes
    pub looks_up_none : (kind : Kind) (hash : ℕ) → FindsFound post kind t hash None → FindsFirst post t hash None → LooksUp post kind wt.word ts.spec b p hash None
    looks_up_none kind hash finds first = record { accepted = tt; finds = found_of kind hash None finds; first = first_of kind hash None finds first }

    pub looks_up_some : (kind : Kind) (hash q : ℕ) → FindsFound post kind t hash (Some q) → FindsFirst post t hash (Some q) → IsAcceptedAt post t q
        → LooksUp post kind wt.word ts.spec b p hash (Some q)
    looks_up_some kind hash q finds first accepted =
        record { accepted = accepted_of q accepted; finds = found_of kind hash (Some q) finds; first = first_of kind hash (Some q) finds first }

    pub reads_exactly : (kind : Kind) (hash before after : ℕ) → before ≡ 0 → CountsStrides post kind t hash before after → ReadsExactly post kind wt.word ts.spec b p hash after
    reads_exactly kind hash before after none counts accept compares =
        let here = subst (λ n. CountsStrides post kind t hash n after) none counts in
        let P = λ (c : List ℕ) (q : ℕ). after ≡ probe_length_at kind wt.word ts.spec.size c q hash accept in
        subst (P b) pos (subst (λ (c : List ℕ). P c t.view.pos) bytes
        (counted_lookup _ _ _ after (cap_small t) here.bounded (here.counted accept (compares_by_of accept compares))))

  -- each write of only an item of the table that keeps it valid keeps the table
  pub item_at_found : IsElement ts.spec → Viewable (table_spec wt.word ts.spec) b p → (q : ℕ) → IsItemPos t q → (i : ℕ) × IsItemAt wt.word ts.spec b p i q
  item_at_found law table q is =
      let i = is.0 in
      let P = λ (c : List ℕ) (r : ℕ). IsWalked wt.word c r i × (q ≡ item_at wt.word ts.spec.size c r i) in
      let there : P b p = subst (P b) pos (subst (λ (c : List ℕ). P c t.view.pos) bytes (is.1, is.2)) in (
        i,
        record {
          walked = there.0;
          pos = there.1;
          viewable = subst (Viewable ts.spec b) (sym there.1) (item_viewable wt.word ts.spec law b p table i there.0);
          kept = λ c sealed keeps. table_kept wt.word ts.spec law b p i table there.0 c sealed keeps;
        },
      )
