-- The items of a written table are valid and represented, in bucket order.
use Rattle.std.proofs.Common.{arith, refl, sym, ◌∙◌, ap, subst, zero, length-append}
use Rattle.std.proofs.lemmas.Grind.{common_steps}
use Rattle.std.proofs.lemmas.Option.{none-some, same_Some}
use Rattle.std.specs.Prelude.{◌≡◌, ℕ, suc, ◌+◌, ◌-◌, ◌*◌, ◌%◌, ◌≤◌, List, [], ◌∷◌, ◌++◌, drop}
use Rattle.std.specs.Prelude.{None, Option, Some, length, slice_get}
use Rattle.rkyv_base.specs.{ElementSpec, Format, IsAlign, IsElement, IsFormat, OccursAt, zeros}
use Rattle.rkyv_base.specs.Lemmas.Bytes.{occurs_back, occurs_front}
use Rattle.rkyv_base.specs.Lemmas.ElementSpec.{by_align, sum_multiple}
use Rattle.rkyv_table.specs.Lemmas.Buckets.{images_length}
use Rattle.rkyv_table.specs.{AreValidAt, SlotImages, SlotParts, bucket_at, filled_from}
use Rattle.rkyv_table.specs.Lemmas.ValidItemLaws.{all_lower}

zero_times : (n : ℕ) → 0 * n ≡ 0
zero_times n = omega arith

times_one : (n size : ℕ) → suc n * size ≡ n * size + size
times_one n size = omega arith

-- equal lists have the same first item, and the same others
pub same_both : {A : Type 0} (x y : A) (xs ys : List A) → x ∷ xs ≡ y ∷ ys → (x ≡ y) × (xs ≡ ys)
same_both x y xs ys e = (same_Some x y (ap (λ l. slice_get l 0) e), ap (λ l. drop 1 l) e)

zero_multiple : (a : ℕ) → IsAlign a → 0 % a ≡ 0
zero_multiple a al = by_align (λ v. 0 % v ≡ 0) refl refl refl refl a al

module _ {X R : Type 0} (s : ElementSpec) (laws : IsElement s) (represents : List ℕ → ℕ → X
    → Type 0) (f : Format X R) (fl : IsFormat s represents f) (c : List ℕ) (cap begin : ℕ)
    (aligned : begin % s.align ≡ 0) where
  many : (n : ℕ) → (n * s.size) % s.align ≡ 0
  many zero = grind (arith, common_steps, zero_times, zero_multiple)
  many (suc n) = subst (λ k. k % s.align ≡ 0) (sym (times_one n s.size))
      (sum_multiple (n * s.size) s.size s.align laws.align_is (many n) laws.size_whole)

  abbrev at : ℕ → ℕ
  at = bucket_at s.size begin cap

  -- each item is represented in its bucket, counted from `b` on
  abbrev SlotsRepresent : ℕ → List (Option X) → Type 0
  SlotsRepresent b ss = (i : ℕ) (x : X) → slice_get ss i ≡ Some (Some x)
      → represents c (at (b + i)) x

  next_represent : (b : ℕ) (ss : List (Option X)) → SlotsRepresent (b + 1) ss
      → SlotsRepresent b (None ∷ ss)
  next_represent b ss h zero x e = absurd (none-some x (same_Some None (Some x) e))
  next_represent b ss h (suc i) x e =
      let n : (b + 1) + i ≡ b + suc i = omega arith in
      subst (λ k. represents c (at k) x) n (h i x e)

  more_represent : (b : ℕ) (y : X) (ss : List (Option X)) → represents c (at b) y
      → SlotsRepresent (b + 1) ss
      → SlotsRepresent b (Some y ∷ ss)
  more_represent b y ss one h zero x e = grind (arith, common_steps, same_Some)
  more_represent b y ss one h (suc i) x e =
      let n : (b + 1) + i ≡ b + suc i = omega arith in
      subst (λ k. represents c (at k) x) n (h i x e)

  -- the buckets from `b` on are valid and represent their items
  pub slots_sound : (ss : List (Option X)) (b p z : ℕ) (part out : List ℕ) (rs : List R)
      → b + length ss ≡ cap → SlotParts f ss p part rs → SlotImages s.size f ss rs z out
      → OccursAt c p part → OccursAt c begin out → begin + length ss * s.size ≡ z
      → p + length part ≤ begin
      → (l : ℕ) × AreValidAt s at c begin (filled_from b ss) p l × (l ≤ p + length part)
      × SlotsRepresent b ss
  slots_sound [] b p z part out rs n m i sp so e o = grind (arith, common_steps, none-some)
  slots_sound (None ∷ ss) b p z part out rs n m i sp so e o =
      let e' : begin + length ss * s.size ≡ z - s.size =
      omega (arith, e, times_one (length ss) s.size) in
      let n' : (b + 1) + length ss ≡ cap = omega (arith, n) in
      let rec = slots_sound ss (b + 1) p (z - s.size) part i.0 rs n' m i.1 sp
      (occurs_front c begin i.0 (zeros s.size) (subst (OccursAt c begin) i.2 so)) e' o in
      (rec.0, rec.1, rec.2, next_represent b ss rec.3)
  slots_sound (Some x ∷ ss) b p z part out rs n m i sp so e o =
      let e' : begin + length ss * s.size ≡ z - s.size =
      omega (arith, e, times_one (length ss) s.size) in
      let n' : (b + 1) + length ss ≡ cap = omega (arith, n) in
      let left : cap - (b + 1) ≡ length ss = omega (arith, n') in
      let here : z - s.size ≡ at b = sym e' ∙ ap (λ k. begin + k * s.size) (sym left) in
      let a : List ℕ = m.0 in
      let q : List ℕ = m.2 in
      let same = same_both m.1 i.0 m.3 i.1 (sym m.7 ∙ i.4) in
      let spq : OccursAt c p (a ++ q) = subst (OccursAt c p) m.6 sp in
      let sio : OccursAt c begin (i.2 ++ i.3) = subst (OccursAt c begin) i.7 so in
      let k : length i.2 ≡ length ss * s.size =
      images_length s.size f (λ v r w o g. fl.size_exact v r w o g) ss i.1 (z - s.size) i.2 i.6 in
      let sone : OccursAt c (at b) i.3 =
      subst (λ y. OccursAt c y i.3) (ap (λ y. begin + y) k ∙ e'
      ∙ here) (occurs_back c begin i.2 i.3 sio) in
      let np : length part ≡ length a + length q = ap length m.6 ∙ length-append a q in
      let al : at b % s.align ≡ 0 =
      sum_multiple begin ((cap - (b + 1)) * s.size) s.align laws.align_is aligned
      (many (cap - (b + 1))) in
      let im : f.image x i.0 (at b) i.3 = subst (λ y. f.image x i.0 y i.3) here i.5 in
      let d = fl.sound x i.0 c p (at b) a i.3 (subst (λ r. f.parts x p a r) same.0 m.4) im
      (occurs_front c p a q spq) sone (omega arith) al in
      let w = laws.rest_in_range c (at b) p (p + length a) d.0 (omega arith) d.1 in
      let h1 = laws.widen_hi c (at b) p (p + length a) begin d.0 (omega arith) d.1 in
      let rec = slots_sound ss (b + 1) (p + length a) (z - s.size) q i.2 i.1 n'
      (subst (λ y. SlotParts f ss (p + length a) q y) same.1 m.5) i.6 (occurs_back c p a q spq)
      (occurs_front c begin i.2 i.3 sio) e' (omega arith) in
      let low = all_lower s laws at c begin (filled_from (b + 1) ss) (p + length a) d.0 rec.0 w.1
      (omega arith) rec.1 in
      (low.0, (d.0, h1, low.1), omega (arith, low.2, rec.2, np), more_represent b x ss d.2 rec.3)
