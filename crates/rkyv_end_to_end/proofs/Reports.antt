-- Validation, walk and lookup of a table, step by step.
use Rattle.rkyv_base.specs.declared.element.HasSpec.{Ghosts as Specs}
use Rattle.rkyv_base.specs.declared.width.Word.{Ghosts as Words}
use Rattle.std.proofs.Common.{◌≡◌, ℕ, ◌+◌, ◌*◌, ◌/◌, ◌%◌, ◌≤◌, ◌∙◌, sym, ap, subst, arith, Bool, List, length, map, Option, Some, None}
use Rattle.std.specs.Prelude.{IfSome}
use Rattle.std.specs.Int.{Width, byte_len}
use Rattle.std.specs.List.{All, Contains}
use Rattle.std.proofs.lemmas.List.{get_or-map, length-map}
use Rattle.rkyv_base.specs.{ElementSpec, IsArchiveWord, IsElement, Passes, Viewable, pos_of_found}
use Rattle.rkyv_base.specs.Lemmas.ElementSpec.{valid_at}
use Rattle.rkyv_base.specs.declared.element.PartRange.{PartRange}
use Rattle.rkyv_base.specs.declared.view.View.{View}
use Rattle.rkyv_scan.specs.{generic_kind}
use Rattle.rkyv_table.specs.{AcceptedOf, CountsStrides, CountsWithin, FindsItem, LooksUp, LooksUpInBytes, ReadsExactly, ReadsWithin, WalkedAreFull, cap_at, count_after, item_at, item_positions, len_at, probe_capacity, table_controls, table_spec, walk}
use Rattle.rkyv_table.specs.Lemmas.TableLaws.{table_element}
use Rattle.rkyv_table.specs.declared.table.ArchivedHashTable.{ArchivedHashTable}
use Rattle.rkyv_end_to_end.specs.{ReadsWithinBound, ReportsTable}
use Rattle.rkyv_end_to_end.specs.declared.looking.TableReport.{TableReport}

-- accepted bytes are a valid table
pub accepted_viewable : (w : Width) → IsArchiveWord w → (s : ElementSpec) → IsElement s → (b : List ℕ) (p : ℕ) (range rest : PartRange)
    → p + 3 * byte_len w ≤ length b → p % byte_len w ≡ 0 → range.lo ≤ range.hi → range.hi ≤ p → Passes (table_spec w s) b p range rest → Viewable (table_spec w s) b p
accepted_viewable w kind s law b p range rest inside aligned ordered before passes = record {
  inside = inside;
  aligned = aligned;
  valid = valid_at (table_spec w s) (table_element w kind s law) b p range.lo range.hi rest.lo ordered before passes.1;
}

contains_map : (f : ℕ → ℕ) (xs : List ℕ) (x : ℕ) → Contains xs x → Contains (map f xs) (f x)
contains_map f xs x c = (c.0, omega (arith, c.1, length-map xs f), get_or-map f xs c.0 x (f x) c.1 ∙ ap f c.2)

module _ {T : Type 0} (post : View T → Bool → Type 0) (w : Width) (s : ElementSpec) (b : List ℕ) (p : ℕ) (walked_full : WalkedAreFull) where
  -- an accepted item is one of those of the walk
  accepted_walked : (q : ℕ) → AcceptedOf post w s b p q → Contains (item_positions w s.size b p) q
  accepted_walked q is =
      let one = is.1 in
      let at : ℕ → ℕ = item_at w s.size b p in
      let there = contains_map at (walk (table_controls w b p) (cap_at w b p)) one.bucket ((walked_full (cap_at w b p) one.bucket (table_controls w b p)).1 one.walked) in
      subst (Contains (item_positions w s.size b p)) (sym one.pos ∙ is.2) there

  found_walked : (found : Option ℕ) → IfSome found (AcceptedOf post w s b p) → IfSome found (Contains (item_positions w s.size b p))
  found_walked None is = tt
  found_walked (Some q) is = accepted_walked q is

  -- the items and the lookup of a valid table
  pub table_reported : (hash : ℕ) (report : TableReport) → report.walked.items ≡ item_positions w s.size b p
      → length report.walked.items ≡ len_at w b p → All (Viewable s b) report.walked.items → LooksUp post generic_kind w s b p hash report.found → ReadsWithinBound w b p report.strides → ReadsExactly post generic_kind w s b p hash report.strides
      → ReportsTable (record { word = w; spec = s; bytes = b; pos = p }) post hash report
  table_reported hash report walks count checked looks reads exact = record {
    walks = walks;
    count = count;
    checked = checked;
    among = subst (λ (xs : List ℕ). IfSome report.found (Contains xs)) (sym walks) (found_walked report.found looks.accepted);
    looks = looks;
    reads = reads;
    exact = exact;
  }

-- the result of a lookup in the table is its result in the bytes, and so are its strides
module _ {T W : Type 0} {ts : Specs T} {wt : Words W} (post : View T → Bool → Type 0) (law : LooksUpInBytes ts wt post) (b : List ℕ) (p : ℕ)
    (t : ArchivedHashTable T W ts wt) (bytes : t.view.archive.now ≡ b) (pos : t.view.pos ≡ p) (hash : ℕ) where
  pub looks_found : (found : Option (View T)) → FindsItem post generic_kind t hash found → LooksUp post generic_kind wt.word ts.spec b p hash (pos_of_found found)
  looks_found found is =
      let P = λ (c : List ℕ) (q : ℕ). LooksUp post generic_kind wt.word ts.spec c q hash (pos_of_found found) in
      subst (P b) pos (subst (λ (c : List ℕ). P c t.view.pos) bytes (law.found generic_kind t hash found is))

  pub read_exactly : (before after : ℕ) → before ≡ 0 → CountsStrides post generic_kind t hash before after → ReadsExactly post generic_kind wt.word ts.spec b p hash after
  read_exactly before after none counts =
      let P = λ (c : List ℕ) (q : ℕ). ReadsExactly post generic_kind wt.word ts.spec c q hash after in
      let from_0 = subst (λ n. CountsStrides post generic_kind t hash n after) none counts in
      subst (P b) pos (subst (λ (c : List ℕ). P c t.view.pos) bytes (law.strides generic_kind t hash after from_0))

-- the strides that a lookup in the table reads are those of the bytes
pub read_within_bound : {T W : Type 0} {ts : Specs T} {wt : Words W} (b : List ℕ) (p : ℕ) (t : ArchivedHashTable T W ts wt) → t.view.archive.now ≡ b → t.view.pos ≡ p
    → (before after : ℕ) → before ≡ 0 → CountsWithin t before after → ReadsWithinBound wt.word b p after
read_within_bound {wt = wt} b p t bytes pos before after none within =
    let P = λ (c : List ℕ) (q : ℕ). ReadsWithin (len_at wt.word c q) (probe_capacity (cap_at wt.word c q) / 16) before after in
    let there : P b p = subst (P b) pos (subst (λ (c : List ℕ). P c t.view.pos) bytes within) in
    let most = there.most in
    record {
      none = λ h. there.none h ∙ none;
      some = λ h. subst (λ n. count_after n 1 ≤ after) none (there.some h);
      most = omega arith;
    }
