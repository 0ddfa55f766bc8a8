-- A table is an element.
use Rattle.std.specs.Prelude.{◌≡◌, ℕ, ◌+◌, ◌-◌, ◌*◌, ◌%◌, ◌<◌, ◌≤◌, ℤ, List, slice_index}
use Rattle.std.specs.Int.{Width, byte_len}
use Rattle.std.specs.Coded.{×_prop}
use Rattle.std.proofs.Common.{refl, arith, subst, sym, ◌∙◌, ap, inl, inr, rules}
use Rattle.std.proofs.lemmas.Grind.{common_steps}
use Rattle.std.proofs.Props.{props}
use Rattle.std.proofs.lemmas.Bool.{cases_lt}
use Rattle.std.proofs.Math.Nat.{mul-le-mul_right, mul-zero}
use Rattle.std.proofs.lemmas.Nat.{mul-mod}
use Rattle.rkyv_scan.specs.{AllBelow, is_full}
use Rattle.rkyv_scan.proofs.Indices.{range_below}
use Rattle.rkyv_base.specs.declared.errors.VerifyError.{VerifyError}
use Rattle.rkyv_base.specs.declared.errors.VerifyError.TheVariants.{UnwrappedControlByte}
use Rattle.rkyv_base.specs.{AgreeOn, ElementSpec, IsAlign, IsArchiveWord, IsElement, PartIn}
use Rattle.rkyv_base.specs.Lemmas.Bytes.{agree_on_part}
use Rattle.rkyv_base.specs.Lemmas.Props.{either_prop, only_one, prop_by}
use Rattle.rkyv_base.specs.Lemmas.Parts.{part_exclusive, part_one, part_one_failure, part_prop}
use Rattle.rkyv_base.specs.Lemmas.Parts.{part_wider}
use Rattle.rkyv_base.specs.Lemmas.ElementSpec.{by_align, sum_multiple}
use Rattle.rkyv_base.specs.Lemmas.Text.{by_archive_word}
use Rattle.rkyv_table.specs.Table.Header.{cap_at, decode_begin, len_at}
use Rattle.rkyv_table.specs.Table.ValidItems.{AreValidAt}
use Rattle.rkyv_table.specs.Lemmas.ValidItemLaws.{all_exclusive, all_local, all_lower, all_one}
use Rattle.rkyv_table.specs.Lemmas.ValidItemLaws.{all_one_failure, all_prop}
use Rattle.rkyv_table.specs.Controls.Placing.{AreValidControls, IsWrapped, walk}
use Rattle.rkyv_table.specs.Controls.Wrapping.{FirstUnwrapped}
use Rattle.rkyv_table.specs.Lemmas.SameHeader.{begin_same, cap_same, len_same}
use Rattle.rkyv_table.specs.Table.Layout.{AreValidItems, FailsInside, IsPart, TableAt, TableFailsAt}
use Rattle.rkyv_table.specs.Table.Layout.{IsValidTable, bucket_at, controls_at, part_size}
use Rattle.rkyv_table.specs.Table.Layout.{table_spec}

-- a bucket is between the begin of the buckets and the control bytes
pub bucket_inside : (size begin cap i : ℕ) → i < cap → (begin ≤ bucket_at size begin cap i)
    × (bucket_at size begin cap i + size ≤ begin + cap * size)
bucket_inside size begin cap i h = grind (arith, common_steps, mul-le-mul_right)

-- a bucket is aligned
pub bucket_aligned : (s : ElementSpec) → IsElement s → (begin cap i : ℕ) → begin % s.align ≡ 0
    → bucket_at s.size begin cap i % s.align ≡ 0
bucket_aligned s law begin cap i h =
    let z : ((cap - (i + 1)) % s.align * 0) % s.align ≡ 0 =
    rw mul-zero (by_align (λ a. 0 % a ≡ 0) refl refl refl refl s.align law.align_is) in
    let m : ((cap - (i + 1)) * s.size) % s.align ≡ 0 =
    mul-mod (cap - (i + 1)) s.size s.align
    ∙ ap (λ x. ((cap - (i + 1)) % s.align * x) % s.align) law.size_whole ∙ z in
    sum_multiple begin ((cap - (i + 1)) * s.size) s.align law.align_is h m

-- the buckets of a walk are below the capacity
pub walk_below : (controls : List ℕ) (cap : ℕ) → AllBelow cap (walk controls cap)
unfolding walk
walk_below controls cap = range_below (λ b. is_full (slice_index controls b)) cap

-- control bytes that mirror the buckets' control bytes have no first failure
repeats_exclusive : (cap q : ℕ) (controls : List ℕ) → IsWrapped cap controls
    → FirstUnwrapped cap controls q → ⊥
repeats_exclusive cap q controls r u =
    u.unlike ((λ lt. r.repeated q u.from lt u.below), (λ ge. r.past q ge u.below))

-- the first failure of control bytes is unique
unlike_one : (cap q q' : ℕ) (controls : List ℕ) → FirstUnwrapped cap controls q
    → FirstUnwrapped cap controls q' → q ≡ q'
unlike_one cap q q' controls u u' = elim (cases_lt q q') [
  | inl below ↦ absurd (u.unlike (u'.least q u.from below))
  | inr above ↦ elim (cases_lt q' q) [
    | inl below ↦ absurd (u'.unlike (u.least q' u'.from below))
    | inr same ↦ omega (arith, above, same)
  ]
]

module _ (s : ElementSpec) where
  -- a table that is valid by some numbers of a header is valid by equal numbers
  pub of_numbers : (b : List ℕ) {decoded decoded' : ℤ} {cap cap' len len' lo hi l : ℕ}
      → decoded ≡ decoded'
      → cap ≡ cap' → len ≡ len'
      → TableAt s b decoded cap len lo hi l → TableAt s b decoded' cap' len' lo hi l
  of_numbers b {decoded} {decoded'} {cap} {cap'} {len} {len'} {lo} {hi} {l} e f g h =
      subst (λ x. TableAt s b decoded' cap' x lo hi l) g
      (subst (λ x. TableAt s b decoded' x len lo hi l) f
      (subst (λ x. TableAt s b x cap len lo hi l) e h))

  pub fails_of_numbers : (b : List ℕ) {decoded decoded' : ℤ} {cap cap' len len' lo hi : ℕ}
      {x : VerifyError} → decoded ≡ decoded' → cap ≡ cap' → len ≡ len'
      → TableFailsAt s b decoded cap len lo hi x → TableFailsAt s b decoded' cap' len' lo hi x
  fails_of_numbers b {decoded} {decoded'} {cap} {cap'} {len} {len'} {lo} {hi} {x} e f g h =
      subst (λ y. TableFailsAt s b decoded' cap' y lo hi x) g
      (subst (λ y. TableFailsAt s b decoded' y len lo hi x) f
      (subst (λ y. TableFailsAt s b y cap len lo hi x) e h))

module _ (s : ElementSpec) (law : IsElement s) where
  at_between : (b : List ℕ) (decoded : ℤ) (cap len lo hi l : ℕ) → lo ≤ hi
      → TableAt s b decoded cap len lo hi l → (lo ≤ l) × (l ≤ hi)
  at_between b decoded cap len lo hi l o h = grind (arith, common_steps)

  at_one : (b : List ℕ) (decoded : ℤ) (cap len lo hi l l' : ℕ) → TableAt s b decoded cap len lo hi l
      → TableAt s b decoded cap len lo hi l' → l ≡ l'
  at_one b decoded cap len lo hi l l' h f = grind (arith, common_steps, part_one)

  part_proper : (b : List ℕ) (cap len lo begin : ℕ) → IsProp (IsPart s b cap len lo begin)
  part_proper b cap len lo begin =
      let at : ℕ → ℕ = bucket_at s.size begin cap in
      let full : List ℕ = walk (controls_at s.size b begin cap) cap in
      prop_by {B = AreValidControls cap len (controls_at s.size b begin cap)
      × ((last : ℕ) × AreValidAt s at b begin full lo last)}
      (λ h. (h.controls, (h.last, h.items)))
      (λ h. record { controls = h.0; last = h.1.0; items = h.1.1 }) (λ _. refl)
      (×_prop (hlevel props) (only_one (all_prop s law at b begin full lo)
      (all_one s law at b begin full lo)))

  at_proper : (b : List ℕ) (decoded : ℤ) (cap len lo hi l : ℕ)
      → IsProp (TableAt s b decoded cap len lo hi l)
  at_proper b decoded cap len lo hi l =
      let P : ℕ → Type 0 = λ begin. PartIn decoded (part_size s.size cap) s.align lo hi begin
      × (IsPart s b cap len lo begin × (l ≡ begin + part_size s.size cap)) in
      either_prop
      (prop_by {B = (len ≡ 0) × ((cap ≡ 0) × (l ≡ lo))} (λ h. (h.0, (h.1, h.2)))
      (λ h. (h.0, h.1.0, h.1.1)) (λ _. refl) (hlevel props))
      (prop_by {B = (begin : ℕ) × P begin} (λ h. (h.0, (h.1, (h.2, h.3))))
      (λ h. (h.0, h.1.0, h.1.1.0, h.1.1.1)) (λ _. refl) (only_one
      (λ begin. ×_prop (part_prop decoded (part_size s.size cap) s.align lo hi begin)
      (×_prop (part_proper b cap len lo begin) (hlevel props)))
      (λ n n' h k. part_one decoded (part_size s.size cap) s.align lo hi n n' h.0 k.0)))
      (λ h k. omega (arith, h.1, k.2.controls.room))

  inside_exclusive : (b : List ℕ) (cap len lo begin : ℕ) (e : VerifyError)
      → IsPart s b cap len lo begin
      → FailsInside s b cap len lo begin e → ⊥
  inside_exclusive b cap len lo begin e is h =
      grind (arith, common_steps, all_exclusive, repeats_exclusive)

  at_exclusive : (b : List ℕ) (decoded : ℤ) (cap len lo hi l : ℕ) (e : VerifyError)
      → TableAt s b decoded cap len lo hi l → TableFailsAt s b decoded cap len lo hi e → ⊥
  at_exclusive b decoded cap len lo hi l e (inl h) (inl f) = omega (arith, h.0, f.1)
  at_exclusive b decoded cap len lo hi l e (inl h) (inr (inl f)) = omega (arith, h.1, f.0)
  at_exclusive b decoded cap len lo hi l e (inl h) (inr (inr f)) = omega (arith, h.1, f.0)
  at_exclusive b decoded cap len lo hi l e (inr (n, part, is, x)) (inl f) =
      grind (arith, common_steps)
  at_exclusive b decoded cap len lo hi l e (inr (n, part, is, x)) (inr (inl f)) =
      grind (arith, common_steps, part_exclusive)
  at_exclusive b decoded cap len lo hi l e (inr (n, part, is, x)) (inr (inr (room, n', part', f))) =
      let same : n' ≡ n = part_one decoded (part_size s.size cap) s.align lo hi n' n part' part in
      inside_exclusive b cap len lo n e is (subst (λ m. FailsInside s b cap len lo m e) same f)

  inside_one_failure : (b : List ℕ) (cap len lo begin : ℕ) (e e' : VerifyError)
      → FailsInside s b cap len lo begin e → FailsInside s b cap len lo begin e' → e ≡ e'
  inside_one_failure b cap len lo begin e e' (inl f) (inl g) =
      grind (arith, common_steps, all_one_failure)
  inside_one_failure b cap len lo begin e e' (inl f) (inr g) =
      grind (arith, common_steps, all_exclusive)
  inside_one_failure b cap len lo begin e e' (inr f) (inl g) =
      grind (arith, common_steps, all_exclusive)
  inside_one_failure b cap len lo begin e e' (inr (last, items, inl f))
      (inr (last', items', inl g)) = f.1 ∙ sym g.1
  inside_one_failure b cap len lo begin e e' (inr (last, items, inl f))
      (inr (last', items', inr g)) = absurd (f.0 g.0)
  inside_one_failure b cap len lo begin e e' (inr (last, items, inr f))
      (inr (last', items', inl g)) = absurd (g.0 f.0)
  inside_one_failure b cap len lo begin e e' (inr (last, items, inr f))
      (inr (last', items', inr g)) =
      f.3 ∙ ap UnwrappedControlByte
      (unlike_one cap f.1 g.1 (controls_at s.size b begin cap) f.2 g.2) ∙ sym g.3

  at_one_failure : (b : List ℕ) (decoded : ℤ) (cap len lo hi : ℕ) (e e' : VerifyError)
      → TableFailsAt s b decoded cap len lo hi e → TableFailsAt s b decoded cap len lo hi e'
      → e ≡ e'
  at_one_failure b decoded cap len lo hi e e' (inl f) (inl g) = f.2 ∙ sym g.2
  at_one_failure b decoded cap len lo hi e e' (inl f) (inr (inl g)) = grind (arith, common_steps)
  at_one_failure b decoded cap len lo hi e e' (inl f) (inr (inr g)) = grind (arith, common_steps)
  at_one_failure b decoded cap len lo hi e e' (inr (inl f)) (inl g) = grind (arith, common_steps)
  at_one_failure b decoded cap len lo hi e e' (inr (inr f)) (inl g) = grind (arith, common_steps)
  at_one_failure b decoded cap len lo hi e e' (inr (inl f)) (inr (inl g)) =
      grind (arith, common_steps, part_one_failure)
  at_one_failure b decoded cap len lo hi e e' (inr (inl f)) (inr (inr g)) =
      grind (arith, common_steps, part_exclusive)
  at_one_failure b decoded cap len lo hi e e' (inr (inr f)) (inr (inl g)) =
      grind (arith, common_steps, part_exclusive)
  at_one_failure b decoded cap len lo hi e e' (inr (inr f)) (inr (inr g)) =
      let same : g.1 ≡ f.1 =
      part_one decoded (part_size s.size cap) s.align lo hi g.1 f.1 g.2 f.2 in
      inside_one_failure b cap len lo f.1 e e' f.3
      (subst (λ m. FailsInside s b cap len lo m e') same g.3)

  is_lower : (b : List ℕ) (cap len lo lo' begin : ℕ) → lo' ≤ lo → lo ≤ begin
      → IsPart s b cap len lo begin → IsPart s b cap len lo' begin
  is_lower b cap len lo lo' begin o o' is =
      let d : (l' : ℕ) × AreValidItems s b begin cap lo' l' × (l' ≤ is.last) =
      all_lower s law (bucket_at s.size begin cap) b begin
      (walk (controls_at s.size b begin cap) cap) lo lo' is.last o o' is.items in
      record { controls = is.controls; last = d.0; items = d.1 }

  at_higher : (b : List ℕ) (decoded : ℤ) (cap len lo hi hi' l : ℕ) → hi ≤ hi'
      → TableAt s b decoded cap len lo hi l → TableAt s b decoded cap len lo hi' l
  at_higher b decoded cap len lo hi hi' l o h = grind (arith, common_steps, part_wider)

  at_lower : (b : List ℕ) (decoded : ℤ) (cap len lo lo' hi l : ℕ) → lo' ≤ lo
      → TableAt s b decoded cap len lo hi l
      → (l' : ℕ) × TableAt s b decoded cap len lo' hi l' × (l' ≤ l)
  at_lower b decoded cap len lo lo' hi l o (inl h) = (lo', inl (h.0, h.1, refl), omega (arith, h.2))
  at_lower b decoded cap len lo lo' hi l o (inr (n, part, is, e)) = (
    l,
    grind (arith, part_wider, is_lower),
    omega arith,
  )

  is_near : (b c : List ℕ) (cap len lo begin : ℕ) → lo ≤ begin
      → AgreeOn b c lo (begin + part_size s.size cap) → IsPart s b cap len lo begin
      → IsPart s c cap len lo begin
  is_near b c cap len lo begin low same is =
      let e : controls_at s.size b begin cap ≡ controls_at s.size c begin cap =
      grind (arith, common_steps, agree_on_part) in
      let items = all_local s law (bucket_at s.size begin cap) b c lo (begin + part_size s.size cap)
      cap begin (walk (controls_at s.size b begin cap) cap) lo is.last
      same (omega arith) low (omega arith) (walk_below (controls_at s.size b begin cap) cap)
      (λ i h. let u = bucket_inside s.size begin cap i h in
      (omega (arith, u.0), omega (arith, u.1))) is.items in
      grind (arith, common_steps)

  at_local : (b c : List ℕ) (decoded : ℤ) (cap len lo hi l : ℕ) → AgreeOn b c lo l
      → TableAt s b decoded cap len lo hi l → TableAt s c decoded cap len lo hi l
  at_local b c decoded cap len lo hi l same h = grind (arith, common_steps, is_near)

  is_valid_local : (w : Width) (b c : List ℕ) (p lo hi l : ℕ) → AgreeOn b c p (p + 3 * byte_len w)
      → AgreeOn b c lo l → IsValidTable w s b p lo hi l → IsValidTable w s c p lo hi l
  is_valid_local w b c p lo hi l fixed part h =
      at_local b c (decode_begin w s.size c p) (cap_at w c p) (len_at w c p) lo hi l part
      (of_numbers s b (begin_same w b c p fixed s.size) (cap_same w b c p fixed)
      (len_same w b c p fixed) h)

pub table_element : (w : Width) → IsArchiveWord w → (s : ElementSpec) → IsElement s
    → IsElement (table_spec w s)
table_element w kind s law = record {
  align_is = by_archive_word (λ v. IsAlign (byte_len v)) (inr (inr (inl refl)))
      (inr (inr (inr refl))) w kind;
  size_whole = by_archive_word (λ v. (3 * byte_len v) % byte_len v ≡ 0) refl refl w kind;
  size_small =
      by_archive_word (λ v. 3 * byte_len v ≤ 1073741824) (omega arith) (omega arith) w kind;
  proper = λ b p lo hi l. at_proper s law b (decode_begin w s.size b p) (cap_at w b p)
      (len_at w b p) lo hi l;
  rest_in_range = λ b p lo hi l o h. at_between s law b (decode_begin w s.size b p) (cap_at w b p)
      (len_at w b p) lo hi l o h;
  rest_unique = λ b p lo hi l l' h h'. at_one s law b (decode_begin w s.size b p) (cap_at w b p)
      (len_at w b p) lo hi l l' h h';
  exclusive = λ b p lo hi l e h f. at_exclusive s law b (decode_begin w s.size b p) (cap_at w b p)
      (len_at w b p) lo hi l e h f;
  one_failure = search (rules, at_one_failure);
  widen_hi = λ b p lo hi hi' l o h.
      at_higher s law b (decode_begin w s.size b p) (cap_at w b p) (len_at w b p) lo hi hi' l o h;
  lower_lo = λ b p lo lo' hi l o o' h.
      at_lower s law b (decode_begin w s.size b p) (cap_at w b p) (len_at w b p) lo lo' hi l o h;
  local = λ b c p lo hi l o fixed part h. is_valid_local s law w b c p lo hi l fixed part h;
}
