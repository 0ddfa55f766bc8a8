-- The facts about a valid table that its readers need.
use Rattle.rkyv_base.specs.declared.element.HasSpec.{Ghosts as Specs}
use Rattle.rkyv_base.specs.declared.width.Word.{Ghosts as Words}
use Rattle.std.proofs.Common.{◌≡◌, ℕ, ◌+◌, ◌*◌, ◌%◌, ◌<◌, ◌≤◌, refl, sym, ap, subst, ◌∙◌, arith, List, Bool, length, slice_range, pos, ◌+ℤ◌}
use Rattle.std.proofs.lemmas.Grind.{common_steps}
use Rattle.std.specs.Int.{Width}
use Rattle.std.proofs.lemmas.Int.{ints}
use Rattle.std.proofs.lemmas.Bool.{cases_eq}
use Rattle.std.proofs.Math.Nat.{mul-le-mul_right}
use Rattle.rkyv_scan.specs.{Kind}
use Rattle.rkyv_base.specs.{ElementSpec, IsElement, Viewable, signed_at}
use Rattle.rkyv_base.specs.declared.view.View.{View}
use Rattle.rkyv_base.specs.Lemmas.ElementSpec.{valid_at}
use Rattle.rkyv_table.specs.{AreValidControls, IsFullBucket, IsFullIn, IsWalked, ValidPart, cap_at, control_count, controls_pos, found, item_at, len_at, probe_length, table_bytes, table_controls, table_pos, table_spec}
use Rattle.rkyv_table.specs.Lemmas.ItemPositions.{decoded_controls, decoded_item, decoded_pos, item_is_valid, valid_part}
use Rattle.rkyv_table.specs.declared.table.ArchivedHashTable.{ArchivedHashTable}
use Rattle.rkyv_table.specs.Lemmas.TableLaws.{bucket_aligned}

range_count : (b : List ℕ) (at n : ℕ) → at + n ≤ length b → length (slice_range b at (at + n)) ≡ n
range_count b at n inside = grind (arith, common_steps)

module _ (w : Width) (s : ElementSpec) (law : IsElement s) (b : List ℕ) (p : ℕ) (v : Viewable (table_spec w s) b p) where
  -- the buckets and control bytes of a table with buckets
  pub part_of : 0 < cap_at w b p → ValidPart w s b p 0 p v.valid.0
  part_of h = valid_part w s law b p 0 p v.valid.0 v.valid.1 h

  -- its control bytes are valid
  pub controls_accepted : 0 < cap_at w b p → AreValidControls (cap_at w b p) (len_at w b p) (table_controls w b p)
  controls_accepted h = grind (arith, common_steps, part_of, decoded_controls)

  -- the end and the begin of its control bytes
  pub controls_inside : 0 < cap_at w b p → (controls_pos w b p + control_count (cap_at w b p) ≤ length b) × (pos (controls_pos w b p) ≡ pos p +ℤ signed_at w b p)
  controls_inside h = grind (arith, part_of, decoded_pos, ints)

  -- a table with buckets has at least sixteen control bytes
  pub controls_length : 0 < cap_at w b p → length (table_controls w b p) ≡ control_count (cap_at w b p)
  controls_length h = range_count b (controls_pos w b p) (control_count (cap_at w b p)) (controls_inside h).0

  pub controls_count : 0 < cap_at w b p → 16 ≤ length (table_controls w b p)
  controls_count h = let e = controls_length h in omega (arith, e)

  -- a bucket is before the control bytes
  pub item_before : (i : ℕ) → i < cap_at w b p → (i + 1) * s.size ≤ controls_pos w b p
  item_before i h =
      let t = part_of (omega arith) in
      let e = decoded_pos w s.size b p t.begin t.part.begins in
      let m : (i + 1) * s.size ≤ cap_at w b p * s.size = mul-le-mul_right s.size (omega arith) in
      omega arith

  -- a full bucket has a valid item
  pub item_viewable : (i : ℕ) → IsWalked w b p i → Viewable s b (item_at w s.size b p i)
  item_viewable i walked =
      let t = part_of (omega (arith, walked.0)) in
      let one = item_is_valid w s law b p 0 p v.valid.0 v.valid.1 i walked t in
      let at = decoded_item w s.size b p t.begin t.part.begins i walked.0 in
      let ends = t.ends in
      let below = t.part.below in
      let inside = v.inside in
      record {
        inside = omega (arith, one.2, ends);
        aligned = subst (λ q. q % s.align ≡ 0) (sym at) (bucket_aligned s law t.begin (cap_at w b p) i t.part.aligned);
        valid = valid_at s law b (item_at w s.size b p i) one.0.lower t.begin one.0.rest one.0.below one.1 one.0.is_valid;
      }

  -- a table with items has buckets
  pub some_cap : 0 < len_at w b p → 0 < cap_at w b p
  some_cap h = grind (arith, common_steps)

  -- a table without buckets has no items
  pub no_items : cap_at w b p ≡ 0 → len_at w b p ≡ 0
  no_items h = grind (arith, common_steps)

-- lookups in control bytes that were read of a table, if it has buckets, are those in its own
module _ {T W : Type 0} {ts : Specs T} {wt : Words W} (law : IsElement ts.spec) (t : ArchivedHashTable T W ts wt) (controls : List ℕ)
    (are : 0 < t.header.cap → controls ≡ table_controls wt.word (table_bytes t) (table_pos t)) where
  pub read_accepted : 0 < t.header.len → AreValidControls t.header.cap t.header.len controls
  read_accepted some = grind (arith, common_steps, some_cap wt.word ts.spec law (table_bytes t) (table_pos t) t.valid (rw t.decoded.len at some), controls_accepted)

  pub read_walked : (i : ℕ) → IsFullBucket t.header.cap controls i → IsFullIn t i
  read_walked i full = rw (are (omega (arith, full.0)), t.decoded.cap) at full

  -- a function of the control bytes, the capacity and the length is the same of those that were
  -- read. Without items it doesn't depend on the first two
  read_same : {A : Type 0} (f : List ℕ → ℕ → ℕ → A) → ((c d : List ℕ) (m n : ℕ) → f c m 0 ≡ f d n 0) → f controls t.header.cap t.header.len
      ≡ f (table_controls wt.word (table_bytes t) (table_pos t)) (cap_at wt.word (table_bytes t) (table_pos t)) (len_at wt.word (table_bytes t) (table_pos t))
  read_same f none_alike = grind (arith, cases_eq, no_items)

  pub read_found : (kind : Kind) (hash : ℕ) (accept : ℕ → Bool) → found kind controls t.header.cap t.header.len hash accept
      ≡ found kind (table_controls wt.word (table_bytes t) (table_pos t)) (cap_at wt.word (table_bytes t) (table_pos t)) (len_at wt.word (table_bytes t) (table_pos t)) hash accept
  read_found kind hash accept = read_same (λ controls cap len. found kind controls cap len hash accept) (λ c d m n. refl)

  pub read_end : (kind : Kind) (hash : ℕ) (accept : ℕ → Bool) → probe_length kind controls t.header.cap t.header.len hash accept
      ≡ probe_length kind (table_controls wt.word (table_bytes t) (table_pos t)) (cap_at wt.word (table_bytes t) (table_pos t)) (len_at wt.word (table_bytes t) (table_pos t)) hash accept
  read_end kind hash accept = read_same (λ controls cap len. probe_length kind controls cap len hash accept) (λ c d m n. refl)

-- views of one position of one archive are one view
pub view_is : {T : Type 0} (v u : View T) → v.archive ≡ u.archive → v.pos ≡ u.pos → v ≡ u
view_is v u archive same_pos = ap (λ a. record v { archive = a }) archive ∙ ap (λ n. record u { pos = n }) same_pos
