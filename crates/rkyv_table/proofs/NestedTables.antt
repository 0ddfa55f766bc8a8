-- A write among the parts of one item keeps the table.
use Rattle.std.proofs.lemmas.Grind.{common_steps}
use Rattle.std.proofs.Common.{◌≡◌, ◌≢◌, ℕ, ◌+◌, ◌-◌, ◌*◌, ◌<◌, ◌≤◌, sym, subst, arith, inl, inr, List, Bool, true, filter, slice_index}
use Rattle.std.specs.Int.{Width, byte_len}
use Rattle.std.specs.List.{range_with_len}
use Rattle.std.proofs.lemmas.Bool.{lt-ltb}
use Rattle.std.proofs.lemmas.Int.{ints}
use Rattle.rkyv_base.specs.{AgreeOn, ElementSpec, IsElement, ModifiesOnly, Viewable}
use Rattle.rkyv_base.proofs.Sealing.{sealed_wider}
use Rattle.rkyv_scan.specs.{is_full}
use Rattle.rkyv_table.specs.{AreValidAt, AreValidItems, IsPart, IsValidBefore, StaysAt, IsWalked, TableAt, ValidPart, WritesAmongParts, bucket_at, cap_at, control_count, controls_at, decode_begin, item_at, len_at, table_controls, table_spec, walk}
use Rattle.rkyv_table.specs.Lemmas.ItemPositions.{decoded_controls, decoded_item, decoded_pos}
use Rattle.rkyv_table.specs.Lemmas.ValidItemLaws.{all_between}
use Rattle.rkyv_table.specs.Lemmas.SameHeader.{begin_same, cap_same, len_same, pos_same}
use Rattle.rkyv_table.specs.Lemmas.TableLaws.{of_numbers}
use Rattle.rkyv_table.proofs.NestedItems.{above_same, items_kept, other_stays, own_before, sealed_parts}
use Rattle.rkyv_table.proofs.ValidTable.{part_of}

-- a table with one item that was written among its parts
pub record KeepsOuter (w : Width) (s : ElementSpec) (b c : List ℕ) (p i : ℕ) : Type 0 where
  pub nested : WritesAmongParts (table_spec w s) b c p
  pub header : AgreeOn b c p (p + 3 * byte_len w)
  pub controls : table_controls w c p ≡ table_controls w b p
  pub own : IsValidBefore s b (item_at w s.size b p i)
  pub others : (j : ℕ) → IsWalked w b p j → j ≢ i → StaysAt s b c (item_at w s.size b p j)

module _ (w : Width) (s : ElementSpec) (law : IsElement s) (b : List ℕ) (p i : ℕ) (view : Viewable (table_spec w s) b p) (walked : IsWalked w b p i)
    (c : List ℕ) (writes : WritesAmongParts s b c (item_at w s.size b p i)) where
  whole : ValidPart w s b p 0 p view.valid.0
  whole = part_of w s law b p view (omega (arith, walked.0))

  abbrev cap : ℕ
  cap = cap_at w b p

  abbrev begin : ℕ
  begin = whole.begin

  abbrev bucket_pos : ℕ → ℕ
  bucket_pos = bucket_at s.size begin cap

  at_is : (j : ℕ) → j < cap → item_at w s.size b p j ≡ bucket_pos j
  at_is j h = decoded_item w s.size b p begin whole.part.begins j h

  writes_at : WritesAmongParts s b c (bucket_pos i)
  writes_at = subst (WritesAmongParts s b c) (at_is i walked.0) writes

  up : (j : ℕ) → begin ≤ bucket_pos j
  up j = omega arith

  abbrev P : ℕ → Bool
  P j = is_full (slice_index (controls_at s.size b begin cap) j)

  full : (j : ℕ) → IsWalked w b p j → P j ≡ true
  full j there = lt-ltb (slice_index (controls_at s.size b begin cap) j) 128 (subst (λ (xs : List ℕ). slice_index xs j < 128) (decoded_controls w s.size b p begin whole.part.begins) there.1)

  in_order : (lo l : ℕ) → AreValidItems s b begin cap lo l → AreValidAt s bucket_pos b begin (filter P (range_with_len 0 cap)) lo l
  unfolding walk
  in_order lo l h = h

  abbrev all : AreValidAt s bucket_pos b begin (filter P (range_with_len 0 cap)) 0 whole.is.last
  all = in_order 0 whole.is.last whole.is.items

  -- from the begin of the buckets on, all bytes are the same
  buckets_same : (x y : ℕ) → x ≤ y → begin ≤ x → AgreeOn b c x y
  buckets_same = above_same s law bucket_pos P b c begin cap 0 whole.is.last (omega arith) all up i walked.0 (full i walked) writes_at

  header_same : AgreeOn b c p (p + 3 * byte_len w)
  header_same = let below = whole.part.below in buckets_same p (p + 3 * byte_len w) (omega arith) (omega (arith, below))

  controls_same : controls_at s.size b begin cap ≡ controls_at s.size c begin cap
  controls_same = buckets_same (begin + cap * s.size) (begin + cap * s.size + control_count cap) (omega arith) (omega arith)

  bucket_items_kept : (lo l : ℕ) → lo ≤ begin → AreValidItems s b begin cap lo l → AreValidItems s c begin cap lo l
  unfolding walk
  bucket_items_kept lo l o h =
      let kept = items_kept s law bucket_pos P b c begin cap lo l o (in_order lo l h) up i walked.0 (full i walked) writes_at in
      subst (λ (x : List ℕ). AreValidAt s bucket_pos c begin (filter (λ j. is_full (slice_index x j)) (range_with_len 0 cap)) lo l) controls_same kept.0

  at_kept : (lo hi l : ℕ) → TableAt s b (decode_begin w s.size b p) cap (len_at w b p) lo hi l → TableAt s c (decode_begin w s.size b p) cap (len_at w b p) lo hi l
  at_kept lo hi l (inl h) = inl h
  at_kept lo hi l (inr (n, part, is, e)) = grind (arith, whole, ints, controls_same, bucket_items_kept)

  -- the bytes outside the parts of the table are the same
  at_sealed : (lo hi l : ℕ) → TableAt s b (decode_begin w s.size b p) cap (len_at w b p) lo hi l → ModifiesOnly b lo (l - lo) c
  at_sealed lo hi l (inl h) = absurd (omega (arith, h.1, walked.0))
  at_sealed lo hi l (inr (n, part, is, e)) =
      let same : begin ≡ n = let x = whole.part.begins in let y = part.begins in omega (arith, ints, x, y) in
      let is' : IsPart s b cap (len_at w b p) lo begin = subst (IsPart s b cap (len_at w b p) lo) (sym same) is in
      let above = part.above in
      let low : lo ≤ begin = omega (arith, above, same) in
      let parts = sealed_parts s law bucket_pos P b c begin cap lo is'.last low (in_order lo is'.last is'.items) up i walked.0 (full i walked) writes_at in
      let ends = all_between s law bucket_pos b begin (filter P (range_with_len 0 cap)) lo is'.last low (in_order lo is'.last is'.items) in
      sealed_wider b c lo (is'.last - lo) lo (l - lo) (omega arith) (omega (arith, ends.0, ends.1, e, same)) parts

  pub outer_kept : KeepsOuter w s b c p i
  outer_kept =
      let same = header_same in
      let caps = sym (cap_same w b c p same) in
      record {
        nested = record {
          is_valid = λ lo hi l o o' h. of_numbers s c (begin_same w b c p same s.size) (cap_same w b c p same) (len_same w b c p same) (at_kept lo hi l h);
          sealed = λ lo hi l o o' h. at_sealed lo hi l h;
        };
        header = same;
        controls = grind (arith, common_steps, pos_same w b c p same, decoded_pos w s.size b p begin whole.part.begins, decoded_controls w s.size b p begin whole.part.begins, whole, controls_same);
        own = subst (IsValidBefore s b) (sym (at_is i walked.0)) (own_before s law bucket_pos P b c begin cap 0 whole.is.last (omega arith) all up i walked.0 (full i walked) writes_at);
        others = λ j there ne. subst (StaysAt s b c) (sym (at_is j there.0)) (other_stays s law bucket_pos P b c begin cap 0 whole.is.last (omega arith) all up i walked.0 (full i walked) writes_at j there.0 (full j there) ne);
      }
