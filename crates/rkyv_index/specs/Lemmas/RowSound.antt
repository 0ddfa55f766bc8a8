-- Written values in a row are valid and represent the values.
use Rattle.std.proofs.Common.{arith, sym, ◌∙◌, ap, subst, zero, length-append}
use Rattle.std.proofs.lemmas.Grind.{common_steps}
use Rattle.std.proofs.lemmas.Option.{none-some, same_Some}
use Rattle.std.specs.Prelude.{◌≡◌, ℕ, suc, ◌+◌, ◌*◌, ◌%◌, ◌≤◌, List, [], ◌∷◌, ◌++◌, length}
use Rattle.std.specs.Prelude.{Some, slice_get}
use Rattle.std.specs.List.{range_with_len}
use Rattle.rkyv_base.specs.{ElementSpec, Format, IsElement, IsFormat, OccursAt, ValidAt}
use Rattle.rkyv_base.specs.Lemmas.Bytes.{occurs_back, occurs_front}
use Rattle.rkyv_base.specs.Lemmas.ElementSpec.{sum_multiple, valid_at}
use Rattle.rkyv_table.specs.Lemmas.ValidItemLaws.{all_lower}
use Rattle.rkyv_table.specs.Lemmas.SlotSound.{same_both}
use Rattle.rkyv_table.specs.{AreValidAt}
use Rattle.rkyv_index.specs.{RowImages, RowParts}

next_times : (n size : ℕ) → (n + 1) * size ≡ n * size + size
next_times n size = omega arith

times_suc : (n size : ℕ) → suc n * size ≡ size + n * size
times_suc n size = omega arith

module _ {X R : Type 0} (s : ElementSpec) (laws : IsElement s) (represents : List ℕ → ℕ → X
    → Type 0)
    (f : Format X R) (fl : IsFormat s represents f) where
  pub images_length : (xs : List X) (rs : List R) (q : ℕ) (out : List ℕ) → RowImages f xs rs q out
      → length out ≡ length xs * s.size
  images_length [] rs q out i = ap length i.1 ∙ omega arith
  images_length (x ∷ xs) rs q out i =
      let n = fl.size_exact x i.0 q i.2 i.5 in
      let m = images_length xs i.1 (q + length i.2) i.3 i.6 in
      ap length i.7 ∙ length-append i.2 i.3 ∙ omega (arith, n, m, times_suc (length xs) s.size)

  module _ (c : List ℕ) (begin : ℕ) where
    abbrev at : ℕ → ℕ
    at i = begin + i * s.size

    -- each value of `xs` is valid and represented at its position, counted from `n` on
    abbrev RowRepresent : ℕ → List X → Type 0
    RowRepresent n xs = (i : ℕ) (x : X) → slice_get xs i ≡ Some x
        → ValidAt s c (at (n + i)) × represents c
        (at (n + i)) x

    more_represent : (n : ℕ) (y : X) (xs : List X) → ValidAt s c (at n) → represents c (at n) y
        → RowRepresent
        (n + 1) xs → RowRepresent n (y ∷ xs)
    more_represent n y xs a b h zero x e = grind (arith, common_steps, same_Some)
    more_represent n y xs a b h (suc i) x e =
        let k : (n + 1) + i ≡ n + suc i = omega arith in
        subst (λ j. ValidAt s c (at j) × represents c (at j) x) k (h i x e)

    -- the values from the index `n` on are valid and represented
    pub row_sound : (xs : List X) (n p : ℕ) (part out : List ℕ) (rs : List R)
        → RowParts f xs p part rs → RowImages f xs rs (at n) out → OccursAt c p part
        → OccursAt c (at n) out → p + length part ≤ begin → at n % s.align ≡ 0
        → (l : ℕ) × AreValidAt s at c begin (range_with_len n (length xs)) p l
        × (l ≤ p + length part) × RowRepresent n xs
    row_sound [] n p part out rs m i sp so o al = grind (arith, common_steps, none-some)
    row_sound (x ∷ xs) n p part out rs m i sp so o al =
        let a : List ℕ = m.0 in
        let b : List ℕ = m.2 in
        let same = same_both m.1 i.0 m.3 i.1 (sym m.7 ∙ i.4) in
        let sab : OccursAt c p (a ++ b) = subst (OccursAt c p) m.6 sp in
        let sio : OccursAt c (at n) (i.2 ++ i.3) = subst (OccursAt c (at n)) i.7 so in
        let whole : length i.2 ≡ s.size = fl.size_exact x i.0 (at n) i.2 i.5 in
        let np : length part ≡ length a + length b = ap length m.6 ∙ length-append a b in
        let next : at n + length i.2 ≡ at (n + 1) = omega (arith, whole, next_times n s.size) in
        let d = fl.sound x i.0 c p (at n) a i.2 (subst (λ r. f.parts x p a r) same.0 m.4) i.5
        (occurs_front c p a b sab) (occurs_front c (at n) i.2 i.3 sio) (omega arith) al in
        let w = laws.rest_in_range c (at n) p (p + length a) d.0 (omega arith) d.1 in
        let h1 = laws.widen_hi c (at n) p (p + length a) begin d.0 (omega arith) d.1 in
        let al2 : at (n + 1) % s.align ≡ 0 =
        subst (λ k. k % s.align ≡ 0) (ap (λ k. at n + k) (sym whole) ∙ next)
        (sum_multiple (at n) s.size s.align laws.align_is al laws.size_whole) in
        let rec = row_sound xs (n + 1) (p + length a) b i.3 i.1
        (subst (λ y. RowParts f xs (p + length a) b y) same.1 m.5)
        (subst (λ k. RowImages f xs i.1 k i.3) next i.6)
        (occurs_back c p a b sab) (subst (λ k. OccursAt c k i.3) next (occurs_back c
        (at n) i.2 i.3 sio))
        (omega arith) al2 in
        let low =
        all_lower s laws at c begin (range_with_len (n + 1) (length xs)) (p + length a) d.0 rec.0
        w.1 (omega arith) rec.1 in
        let here =
        valid_at s laws c (at n) p (p + length a) d.0 (omega arith) (omega arith) d.1 in (
          low.0,
          (d.0, h1, low.1),
          omega (arith, low.2, rec.2, np),
          more_represent n x xs here d.2 rec.3,
        )
