-- Validating the items in order.
use Rattle.std.proofs.Common.{◌≡◌, ℕ, ◌+◌, ◌-◌, ◌<◌, ◌≤◌, inl, inr, refl, sym, ap, subst, ◌∙◌, arith, List, [], ◌∷◌, ◌++◌, ltb, map, filter, drop, take, length, get_or, Some, None}
use Rattle.std.specs.List.{range_with_len, slice_get}
use Rattle.std.proofs.lemmas.Option.{none-some, same_Some}
use Rattle.rkyv_base.specs.declared.errors.VerifyError.{VerifyError}
use Rattle.rkyv_base.specs.{ElementSpec}
use Rattle.rkyv_scan.specs.{AllBelow, indices_where}
use Rattle.rkyv_scan.proofs.Indices.{range_below}
use Rattle.rkyv_table.specs.{AreValid, AreValidAt, FirstFails, bucket_at, full_from, walk}
use Rattle.rkyv_table.proofs.RawSteps.{group_cut, group_read}
use Rattle.rkyv_table.proofs.Walks.{walk_small, whole_walk}

-- the items in the buckets `rest` are still to be validated, from `low` on, after `count`
-- valid ones
pub record IsPartlyChecked (s : ElementSpec) (begin cap : ℕ) (b controls : List ℕ) (lo : ℕ) (rest : List ℕ) (low count : ℕ) : Type 0 where
  pub ordered : low ≤ begin
  pub counted : count + length rest ≡ length (walk controls cap)
  pub valid : (m : ℕ) → AreValidAt s (bucket_at s.size begin cap) b begin rest low m → AreValidAt s (bucket_at s.size begin cap) b begin (walk controls cap) lo m
  pub failed : (e : VerifyError) → FirstFails s (bucket_at s.size begin cap) b begin rest low e → FirstFails s (bucket_at s.size begin cap) b begin (walk controls cap) lo e

module _ (s : ElementSpec) (begin cap : ℕ) (b controls : List ℕ) (lo : ℕ) where
  pub checked_same : (rest rest' : List ℕ) (low count : ℕ) → rest ≡ rest' → IsPartlyChecked s begin cap b controls lo rest low count → IsPartlyChecked s begin cap b controls lo rest' low count
  checked_same rest rest' low count e h = subst (λ is. IsPartlyChecked s begin cap b controls lo is low count) e h

  pub checked_init : lo ≤ begin → IsPartlyChecked s begin cap b controls lo (full_from controls cap 0) lo 0
  checked_init o = checked_same (walk controls cap) (full_from controls cap 0) lo 0 (sym (whole_walk controls cap)) (record { ordered = o; counted = omega arith; valid = λ m h. h; failed = λ e h. h })

  pub checked_step : (i : ℕ) (rest : List ℕ) (low count m : ℕ) → IsPartlyChecked s begin cap b controls lo (i ∷ rest) low count → m ≤ begin → s.is_valid b (bucket_at s.size begin cap i) low begin m → IsPartlyChecked s begin cap b controls lo rest m (count + 1)
  checked_step i rest low count m g o h = record { ordered = o; counted = omega (arith, g.counted); valid = λ n k. g.valid n (m, h, k); failed = λ e k. g.failed e (inr (m, h, k)) }

  pub checked_fails : (i : ℕ) (rest : List ℕ) (low count : ℕ) (e : VerifyError) → IsPartlyChecked s begin cap b controls lo (i ∷ rest) low count → s.fails b (bucket_at s.size begin cap i) low begin e → FirstFails s (bucket_at s.size begin cap) b begin (walk controls cap) lo e
  checked_fails i rest low count e g f = g.failed e (inl f)

  pub checked_end : (low count : ℕ) → IsPartlyChecked s begin cap b controls lo [] low count → AreValid s (bucket_at s.size begin cap) b begin (walk controls cap) lo × (count ≡ length (walk controls cap))
  checked_end low count g = ((low, g.valid low refl), omega (arith, g.counted))

  pub checked_small : (i : ℕ) (rest : List ℕ) (low count : ℕ) → IsPartlyChecked s begin cap b controls lo (i ∷ rest) low count → count + 1 ≤ cap
  checked_small i rest low count g = omega (arith, g.counted, walk_small controls cap)

-- ---- the marks of a group, and the buckets after it

abbrev pub marks_and_rest : List ℕ → ℕ → ℕ → ℕ → List ℕ → List ℕ
marks_and_rest controls cap base width marks = map (λ j. base + j) marks ++ full_from controls cap (base + width)

pub rest_head : (controls : List ℕ) (cap base width j : ℕ) (marks : List ℕ) → Some j ≡ slice_get marks 0 → marks_and_rest controls cap base width marks ≡ (base + j) ∷ marks_and_rest controls cap base width (drop 1 marks)
rest_head controls cap base width j [] e = absurd (none-some j (sym e))
rest_head controls cap base width j (x ∷ xs) e = ap (λ k. (base + k) ∷ marks_and_rest controls cap base width xs) (sym (same_Some j x e))

pub rest_none : (controls : List ℕ) (cap base width : ℕ) (marks : List ℕ) → None ≡ slice_get marks 0 → marks_and_rest controls cap base width marks ≡ full_from controls cap (base + width)
rest_none controls cap base width [] e = refl
rest_none controls cap base width (x ∷ xs) e = absurd (none-some x e)

pub rest_group : (controls g : List ℕ) (cap base width : ℕ) (marks : List ℕ) → base + width ≤ cap → g ≡ take width (drop base controls) → marks ≡ indices_where (λ j. ltb (get_or g j 0) 128) width
    → full_from controls cap base ≡ marks_and_rest controls cap base width marks
unfolding full_from
rest_group controls g cap base width marks le e is =
    let read = group_read controls base width marks (is ∙ ap (λ (xs : List ℕ). indices_where (λ j. ltb (get_or xs j 0) 128) width) e) in
    sym (ap (λ xs. map (λ j. base + j) xs ++ filter (λ q. ltb (get_or controls q 0) 128) (range_with_len (base + width) (cap - (base + width)))) read
    ∙ group_cut (λ q. ltb (get_or controls q 0) 128) cap base width le)

pub marks_below : (g : List ℕ) (width : ℕ) (marks : List ℕ) → marks ≡ indices_where (λ j. ltb (get_or g j 0) 128) width → AllBelow width marks
unfolding indices_where
marks_below g width marks e = subst (AllBelow width) (sym e) (range_below (λ j. ltb (get_or g j 0) 128) width)

pub below_head : (width j : ℕ) (marks : List ℕ) → AllBelow width marks → Some j ≡ slice_get marks 0 → j < width
below_head width j [] h e = absurd (none-some j (sym e))
below_head width j (x ∷ xs) h e = subst (λ k. k < width) (sym (same_Some j x e)) h.0
