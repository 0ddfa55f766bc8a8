-- The steps of a cursor that writes items in place.
use Rattle.rkyv_base.specs.declared.element.HasSpec.{Ghosts as Specs}
use Rattle.rkyv_base.specs.declared.width.Word.{Ghosts as Words}
use Rattle.std.proofs.Common.{◌≡◌, ℕ, ◌+◌, ◌*◌, ◌<◌, ◌≤◌, inl, inr, sym, ap, subst, ◌∙◌, arith, List, ◌∷◌, length, slice_index, slice_range}
use Rattle.std.proofs.lemmas.Grind.{common_steps}
use Rattle.std.specs.Int.{Width}
use Rattle.std.proofs.lemmas.Bool.{cases_eq, le-ltb, lt-ltb}
use Rattle.rkyv_base.specs.{ElementSpec, IsElement, ModifiesOnly, StaysValid, Viewable, archive_in, pos_in}
use Rattle.rkyv_scan.proofs.Indices.{range_agree}
use Rattle.rkyv_table.specs.{IsItemAt, IsItemOfTable, IsReadAt, IsSealIter, IsTableSeal, KeepsTable, StaysThere, YieldsBucket, cap_at, controls_pos, cursor_buckets_left, full_from, len_at, pos_before, table_bytes, table_controls, table_pos, table_spec, walk}
use Rattle.rkyv_table.specs.declared.table.TableOf.{TableOf}
use Rattle.rkyv_table.specs.declared.table.ArchivedHashTable.{ArchivedHashTable}
use Rattle.rkyv_base.specs.declared.seal.ArchiveSeal.{ArchiveSeal}
use Rattle.rkyv_table.specs.Lemmas.SameHeader.{cap_same, pos_same}
use Rattle.rkyv_base.proofs.Sealing.{viewable_kept}
use Rattle.rkyv_table.specs.declared.table.raw_iter_seal.RawIterSeal.{RawIterSeal}
use Rattle.rkyv_table.proofs.ValidTable.{controls_inside, item_before, item_viewable}
use Rattle.rkyv_table.proofs.RawWalks.{walk_count}
use Rattle.rkyv_table.proofs.SealedTable.{table_kept}
use Rattle.rkyv_table.proofs.Walks.{full_end, whole_walk}

pub full_taken : (controls : List ℕ) (cap b : ℕ) → b < cap → slice_index controls b < 128 → full_from controls cap b ≡ b ∷ full_from controls cap (b + 1)
unfolding full_from
full_taken controls cap b h full = grind (arith, lt-ltb)

pub full_skipped : (controls : List ℕ) (cap b : ℕ) → b < cap → 128 ≤ slice_index controls b → full_from controls cap b ≡ full_from controls cap (b + 1)
unfolding full_from
full_skipped controls cap b h empty = grind (arith, le-ltb)

-- the item that a step takes is a valid item of the table
pub item_taken : {T : Type 0} {s : ElementSpec} {before after : RawIterSeal T} {q r : ℕ} → ((w : Width) (p : ℕ) → IsSealIter w s p before → YieldsBucket w s p before after q) → r ≡ q → IsItemOfTable s before r
item_taken {s} {before} takes at = λ w p is. subst (λ n. Viewable s before.archive.now n) (sym at) (takes w p is).item.viewable

module _ {T : Type 0} (w : Width) (s : ElementSpec) (law : IsElement s) (p : ℕ) (r : RawIterSeal T) (is : IsSealIter w s p r) where
  abbrev bytes : List ℕ
  bytes = r.archive.now

  abbrev controls : List ℕ
  controls = slice_range bytes r.buckets_end (r.buckets_end + r.cap)

  some_buckets : 0 < r.left → 0 < r.cap
  some_buckets h = elim (cases_eq r.cap 0) [
    | inl z ↦ let e = is.left ∙ ap length (full_end (table_controls w bytes p) r.cap r.next (omega arith)) in absurd (omega arith)
    | inr n ↦ omega arith
  ]

  cap_some : 0 < r.cap → 0 < cap_at w bytes p
  cap_some h = subst (λ n. 0 < n) is.cap h

  pub part_there : 0 < r.left → r.buckets_end + r.cap ≤ length bytes
  part_there h = grind (arith, common_steps, some_buckets, controls_inside, cap_some)

  control_same : 0 < r.left → (i : ℕ) → i < r.cap → slice_index controls i ≡ slice_index (table_controls w bytes p) i
  control_same h i l = grind (arith, common_steps)

  pub full_same : 0 < r.left → (x : ℕ) → full_from controls r.cap x ≡ full_from (table_controls w bytes p) r.cap x
  unfolding full_from
  full_same h x = grind (arith, common_steps, range_agree, control_same)

  pub bucket_before : 0 < r.left → (i : ℕ) → i < r.cap → (i + 1) * s.size ≤ r.buckets_end
  bucket_before h i l = grind (arith, common_steps, some_buckets, item_before)

  pub first_item : 0 < r.left → (i q : ℕ) → i < r.cap → slice_index controls i < 128 → q ≡ pos_before r.buckets_end s.size i → IsItemAt w s bytes p i q
  first_item h i q l full at = grind (arith, some_buckets, control_same, item_viewable, table_kept)

-- a cursor over a table that was kept
module _ {T : Type 0} (w : Width) (s : ElementSpec) (p i q : ℕ) (before after : RawIterSeal T) (is : IsSealIter w s p before) (item : IsItemAt w s before.archive.now p i q)
    (there : StaysThere before after) (sealed : ModifiesOnly before.archive.now q s.size after.archive.now) (keeps : StaysValid s before.archive.now after.archive.now q) where
  cursor_table : KeepsTable w s before.archive.now after.archive.now p i
  cursor_table =
      item.kept after.archive.now (subst (λ x. ModifiesOnly before.archive.now x s.size after.archive.now) item.pos sealed) (subst (StaysValid s before.archive.now after.archive.now) item.pos keeps)

  cursor_buckets : cursor_buckets_left w p after ≡ cursor_buckets_left w p before
  cursor_buckets = ap (λ xs. full_from xs after.cap after.next) cursor_table.controls
      ∙ ap (λ n. full_from (table_controls w before.archive.now p) n after.next) there.cap ∙ ap (λ n. full_from (table_controls w before.archive.now p) before.cap n) there.next

  pub cursor_kept : KeepsTable w s before.archive.now after.archive.now p i × IsSealIter w s p after × (cursor_buckets_left w p after ≡ cursor_buckets_left w p before)
  cursor_kept =
      let header = cursor_table.header in (
        cursor_table,
        record {
          table = viewable_kept (table_spec w s) before.archive.now after.archive.now p sealed.same_length cursor_table.is_valid is.table;
          cap = there.cap ∙ is.cap ∙ cap_same w before.archive.now after.archive.now p header;
          buckets_end = λ h. there.buckets_end ∙ is.buckets_end (subst (λ n. 0 < n) there.cap h) ∙ pos_same w before.archive.now after.archive.now p header;
          left = there.left ∙ is.left ∙ ap length (sym cursor_buckets);
        },
        cursor_buckets,
      )

-- a new cursor has all full buckets left
module _ {T : Type 0} (w : Width) (s : ElementSpec) (law : IsElement s) (p : ℕ) (r : RawIterSeal T) (view : Viewable (table_spec w s) r.archive.now p)
    (cap : r.cap ≡ cap_at w r.archive.now p) (next : r.next ≡ 0) where
  pub all_left : cursor_buckets_left w p r ≡ walk (table_controls w r.archive.now p) (cap_at w r.archive.now p)
  all_left = grind (arith, common_steps, whole_walk)

  pub begun : r.left ≡ len_at w r.archive.now p → (0 < r.cap → r.buckets_end ≡ controls_pos w r.archive.now p) → IsSealIter w s p r
  begun left buckets_end = record { table = view; cap = cap; buckets_end = buckets_end; left = left ∙ sym (walk_count w s law r.archive.now p view) ∙ ap length (sym all_left) }

-- a cursor with the numbers of a decoded header
module _ {T W : Type 0} {ts : Specs T} {wt : Words W} (law : IsElement ts.spec) (a : ArchiveSeal (TableOf T W)) (viewable : IsTableSeal wt.word ts.spec a) (t : ArchivedHashTable T W ts wt)
    (read : IsReadAt a t) (r : RawIterSeal T) (bytes : r.archive.now ≡ archive_in a) (buckets_end : r.buckets_end ≡ t.header.controls_pos) (cap : r.cap ≡ t.header.cap) (left : r.left ≡ t.header.len) (next : r.next ≡ 0) where
  as_read : (F : List ℕ → ℕ → ℕ) → F (table_bytes t) (table_pos t) ≡ F r.archive.now (pos_in a)
  as_read F = ap (λ b. F b (table_pos t)) (read.0 ∙ sym bytes) ∙ ap (F r.archive.now) read.1

  viewable_there : Viewable (table_spec wt.word ts.spec) r.archive.now (pos_in a)
  viewable_there = subst (λ b. Viewable (table_spec wt.word ts.spec) b (pos_in a)) (sym bytes) viewable

  cap_there : r.cap ≡ cap_at wt.word r.archive.now (pos_in a)
  cap_there = cap ∙ t.decoded.cap ∙ as_read (cap_at wt.word)

  pub begun_at : IsSealIter wt.word ts.spec (pos_in a) r
  begun_at = begun wt.word ts.spec law (pos_in a) r viewable_there cap_there next (left ∙ t.decoded.len ∙ as_read (len_at wt.word))
      (λ h. buckets_end ∙ t.decoded.controls_pos (subst (λ n. 0 < n) cap h) ∙ as_read (controls_pos wt.word))

  pub all_left_at : cursor_buckets_left wt.word (pos_in a) r ≡ walk (table_controls wt.word (archive_in a) (pos_in a)) (cap_at wt.word (archive_in a) (pos_in a))
  all_left_at = all_left wt.word ts.spec law (pos_in a) r viewable_there cap_there next ∙ ap (λ b. walk (table_controls wt.word b (pos_in a)) (cap_at wt.word b (pos_in a))) bytes
