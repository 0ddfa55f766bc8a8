-- Steps of the validation of an index map.
use Rattle.std.proofs.Common.{◌≡◌, ℕ, ◌+◌, ◌-◌, ◌*◌, ◌%◌, ◌<◌, ◌≤◌, refl, sym, ap, subst, ◌∙◌, arith, List, [], Bool, true, false, filter, length, ℤ, FitsSigned, to_z, of_z}
use Rattle.std.proofs.lemmas.Grind.{common_steps}
use Rattle.std.specs.Borrow.{Bor}
use Rattle.std.specs.Int.{Width, byte_len, w128}
use Rattle.std.specs.List.{list_all, range_with_len}
use Rattle.std.proofs.Math.Nat.{add-mul, mul-zero}
use Rattle.std.proofs.lemmas.Bool.{cases_eq}
use Rattle.std.proofs.lemmas.List.Elements.{All-map, All-weaker}
use Rattle.std.proofs.lemmas.Int.{to_z-of_z}
use Rattle.std.proofs.lemmas.Nat.{mul-mod}
use Rattle.rkyv_base.specs.{ElementSpec, Encoding, IsArchiveWord, IsAt, IsElement, IsIndexEncoding, IsScalar, IsValidView, Viewable, number_at}
use Rattle.rkyv_base.specs.Lemmas.ElementSpec.{by_align, sum_multiple, valid_at}
use Rattle.rkyv_base.specs.declared.view.View.{View}
use Rattle.rkyv_table.specs.{IsDecoded, IsValidTable, IsWalked, cap_at, controls_pos, item_at, item_positions, table_controls, table_spec, walk}
use Rattle.rkyv_table.specs.declared.table.decoded.Decoded.{Decoded}
use Rattle.rkyv_table.proofs.Moved.{moved}
use Rattle.rkyv_table.proofs.ValidTable.{controls_inside, item_before}
use Rattle.rkyv_table.proofs.RawWalks.{walked_all}
use Rattle.rkyv_table.specs.Lemmas.TableLaws.{table_element}
use Rattle.rkyv_table.proofs.Lists.{range_cons}
use Rattle.rkyv_index.specs.{AreBelow, IndicesBelow, entry_at, stored_index_spec}
use Rattle.rkyv_index.specs.Lemmas.IndexLaws.{stored_index_element}
use Rattle.rkyv_index.specs.Lemmas.IndexSpecs.{index_table_is_valid}

-- each entry is aligned if the first one is
pub entry_aligned : (s : ElementSpec) → IsElement s → (begin i : ℕ) → begin % s.align ≡ 0 → entry_at s.size begin i % s.align ≡ 0
entry_aligned s law begin i h =
    let z : (i % s.align * 0) % s.align ≡ 0 = rw mul-zero (by_align (λ a. 0 % a ≡ 0) refl refl refl refl s.align law.align_is) in
    let m : (i * s.size) % s.align ≡ 0 = mul-mod i s.size s.align ∙ ap (λ x. (i % s.align * x) % s.align) law.size_whole ∙ z in
    sum_multiple begin (i * s.size) s.align law.align_is h m

-- the end of entry `i` is the position of entry `i + 1`
pub entry_next : (size begin i : ℕ) → entry_at size begin i + size ≡ entry_at size begin (i + 1)
entry_next size begin i = let m = add-mul i 1 size in omega (arith, m)

-- a number that fits is unchanged by its encoding
pub decoded_is : (r x : ℤ) → FitsSigned w128 r → r ≡ x → to_z w128 (of_z w128 r) ≡ x
decoded_is r x fits e = to_z-of_z w128 r fits ∙ e

-- a valid value at `p` is valid at a view of `p`
pub view_there : {T : Type 0} (s : ElementSpec) (v : View T) (archive : Bor (List ℕ)) (p : ℕ) → IsAt v archive p → Viewable s archive.now p → IsValidView s v
view_there s v archive p at viewable =
    subst (λ (x : Bor (List ℕ)). Viewable s x.now v.pos) (sym at.0) (subst (λ q. Viewable s archive.now q) (sym at.1) viewable)

-- a function of the bytes and the position of a view is one of `archive` and `p`
pub view_at : {T X : Type 0} (v : View T) (archive : Bor (List ℕ)) (p : ℕ) → IsAt v archive p → (read : List ℕ → ℕ → X) → read v.archive.now v.pos ≡ read archive.now p
view_at v archive p at read = ap (λ (x : Bor (List ℕ)). read x.now v.pos) at.0 ∙ ap (read archive.now) at.1

-- the table of a valid index map is valid for a view
pub table_viewable : {V : Type 0} (w : Width) → IsArchiveWord w → (s : ElementSpec) (e : Encoding V) → IsScalar s e → IsIndexEncoding w e → (b : List ℕ) (p lo hi m : ℕ)
    → p + 4 * byte_len w ≤ length b → p % byte_len w ≡ 0 → lo ≤ hi → hi ≤ p → IsValidTable w s b p lo hi m → Viewable (table_spec w (stored_index_spec w)) b p
table_viewable w kind s e laws is b p lo hi m inside aligned o o' h =
    grind (
      arith,
      common_steps,
      valid_at (table_spec w (stored_index_spec w)) (table_element w kind (stored_index_spec w) (stored_index_element w kind)) b p lo hi m o o' (index_table_is_valid w s e laws is b p lo hi m h),
      table_element w kind (stored_index_spec w) (stored_index_element w kind),
      stored_index_element w kind,
      index_table_is_valid w s e laws is b p lo hi m h,
    )

-- one more index of a range, which passes the test `P` or fails it
module _ (P : ℕ → Bool) (i n : ℕ) (below : i < n) where
  pub filter_step : (passes : P i ≡ true) → length (filter P (range_with_len i (n - i))) ≡ 1 + length (filter P (range_with_len (i + 1) (n - (i + 1))))
  filter_step passes = ap (λ (xs : List ℕ). length (filter P xs)) (range_cons i n below) ∙ rw passes (omega arith)

  pub filter_skip : (fails : P i ≡ false) → length (filter P (range_with_len i (n - i))) ≡ length (filter P (range_with_len (i + 1) (n - (i + 1))))
  filter_skip fails = ap (λ (xs : List ℕ). length (filter P xs)) (range_cons i n below) ∙ rw fails refl

  pub all_step : (passes : P i ≡ true) → list_all P (range_with_len i (n - i)) ≡ list_all P (range_with_len (i + 1) (n - (i + 1)))
  all_step passes = ap (list_all P) (range_cons i n below) ∙ rw passes refl

  pub all_fails : (fails : P i ≡ false) → list_all P (range_with_len i (n - i)) ≡ false
  all_fails fails = ap (list_all P) (range_cons i n below) ∙ rw fails refl

-- no index remains
pub none_left : (i n : ℕ) → n ≤ i → range_with_len i (n - i) ≡ []
none_left i n above = let z : n - i ≡ 0 = omega arith in ap (range_with_len i) z

pub all_left : (n : ℕ) → range_with_len 0 (n - 0) ≡ range_with_len 0 n
all_left n = let z : n - 0 ≡ n = omega arith in ap (range_with_len 0) z

-- the indices of the full buckets are below `n` if the indices of all buckets are
module _ (w : Width) (kind : IsArchiveWord w) (b : List ℕ) (p n begin : ℕ) (v : Viewable (table_spec w (stored_index_spec w)) b p) (at : 0 < cap_at w b p → begin ≡ controls_pos w b p - cap_at w b p * byte_len w) where
  bucket_below : AreBelow w b begin (cap_at w b p) n → (i : ℕ) → IsWalked w b p i → number_at w b (item_at w (byte_len w) b p i) < n
  bucket_below all i walked =
      let size = byte_len w in
      let cap = cap_at w b p in
      let small : i < cap = walked.0 in
      let k = cap - (i + 1) in
      let whole : (i + 1) + k ≡ cap = omega arith in
      let split : cap * size ≡ (i + 1) * size + k * size = ap (λ m. m * size) (sym whole) ∙ add-mul (i + 1) k size in
      let last : (cap - 1 + 1) * size ≤ controls_pos w b p = item_before w (stored_index_spec w) (stored_index_element w kind) b p v (cap - 1) (omega arith) in
      let before : cap * size ≤ controls_pos w b p = subst (λ m. m * size ≤ controls_pos w b p) (omega arith) last in
      let item_pos_is = at (omega arith) in
      let there : begin + k * size ≡ item_at w size b p i = omega (arith, split, before, item_pos_is) in
      subst (λ q. number_at w b q < n) there (all k (omega arith))

  pub buckets_below : AreBelow w b begin (cap_at w b p) n → IndicesBelow w b n (item_positions w (byte_len w) b p)
  buckets_below all =
      let is = walk (table_controls w b p) (cap_at w b p) in
      All-map (λ q. number_at w b q < n) (item_at w (byte_len w) b p) is
      (All-weaker (IsWalked w b p) (λ i. number_at w b (item_at w (byte_len w) b p i) < n) (bucket_below all) is (walked_all w (stored_index_spec w) (stored_index_element w kind) b p))

-- a property of the bytes and the position of a view is one of those that it is of
pub moved_from_view : {T : Type 0} (view new : View T) (a : Bor (List ℕ)) (p : ℕ) → view ≡ new → IsAt new a p → (P : List ℕ → ℕ → Type 0) → P view.archive.now view.pos → P a.now p
moved_from_view view new a p same at P = grind (arith, common_steps, moved)

-- the buckets of a table, by its decoded header
module _ (w : Width) (kind : IsArchiveWord w) (b : List ℕ) (p : ℕ) (v : Viewable (table_spec w (stored_index_spec w)) b p) (header : Decoded) (is : IsDecoded w b p header) where
  -- they are before the control bytes
  pub decoded_before : 0 < header.cap → header.cap * byte_len w ≤ header.controls_pos
  decoded_before some = grind (arith, item_before, stored_index_element)

  module _ (begin : ℕ) (none_at : header.cap ≡ 0 → begin ≡ 0) (some_at : 0 < header.cap → begin ≡ header.controls_pos - header.cap * byte_len w) where
    -- they are inside the bytes
    pub decoded_inside : begin + header.cap * byte_len w ≤ length b
    decoded_inside = grind (arith, cases_eq, decoded_before, controls_inside, stored_index_element)

    -- they begin at the last one
    pub decoded_begin : 0 < cap_at w b p → begin ≡ controls_pos w b p - cap_at w b p * byte_len w
    decoded_begin some = grind (arith, common_steps)
