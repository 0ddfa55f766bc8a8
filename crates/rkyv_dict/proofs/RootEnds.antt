-- The write of a root fails with one error, except for allocation failures, or makes an archive.
use Rattle.std.proofs.Common.{◌≡◌, ℕ, ◌+◌, ◌∙◌, refl, sym, subst, arith, inl, inr, List, [], ◌++◌, length, append-nil}
use Rattle.std.proofs.lemmas.List.{length-replicate}
use Rattle.rkyv_base.specs.{ElementSpec, Format, RootBytes, RootNext, Step, failure, no_memory, padding, round_up}
use Rattle.rkyv_dict.proofs.Ends.{Ends, Run, ends_as, serialization, then_ends, then_run}
use Rattle.rkyv_dict.proofs.FormatEnds.{EndsOneWay, IsSized, image_ends, image_run}
use Rattle.rkyv_dict.proofs.TableEnds.{aligned_ends, aligned_run, gap}

-- the write of the root
abbrev pub root_run : {V R : Type 0} → ElementSpec → Format V R → V → ℕ → Run (Unit {0})
root_run s f v p = record { next = RootNext s f v p; writes = λ b u. (root : ℕ) × RootBytes s.align f v p b root }

module _ {V R : Type 0} (s : ElementSpec) (f : Format V R) (ends : EndsOneWay f) (sized : IsSized s.size f) (v : V) (p : ℕ) where
  -- the parts of the value, then the zeros and its fixed bytes
  abbrev parts_run : Run (R × (Unit {0} × Unit {0}))
  parts_run = then_run (serialization f v p) (λ n r. aligned_run s.align p (image_run f v r) n)

  parts_ends : Ends parts_run
  parts_ends =
      then_ends (serialization f v p) (λ n r. aligned_run s.align p (image_run f v r) n) (ends.ends v p)
      (λ a r m. aligned_ends s.align p (image_run f v r) (length a) (λ q. image_ends s.size f sized v r q))

  rounded : (a : List ℕ) → round_up (p + length a) s.align ≡ p + length a + length (gap s.align p (length a))
  rounded a = omega (arith, length-replicate {A = ℕ} (padding s.align (p + length a)) 0)

  root_next : (front : List ℕ) (step : Step) → (step ≡ failure no_memory → ⊥) → RootNext s f v p front step → parts_run.next front step
  root_next front step known (inl h) = absurd (known h.1.1)
  root_next front step known (inr (inl h)) = inl h
  root_next front step known (inr (inr (inl h))) = inr (front, h.0, [], h.1, inl (refl, h.2), sym (append-nil front))
  root_next front step known (inr (inr (inr (part, r, made, is, own)))) =
      let zs = gap s.align p (length part) in
      let there = subst (λ n. (image_run f v r n).next [] step) (rounded part) (refl, own) in
      inr (part, r, zs, made, inr (zs, tt, [], refl, there, sym (append-nil zs)), is)

  root_writes : (b : List ℕ) (root : ℕ) → RootBytes s.align f v p b root → (r : R) × parts_run.writes b (r, (tt, tt))
  root_writes b root (part, r, out, made, image, at, is) =
      let zs = gap s.align p (length part) in
      (r, (part, zs ++ out, made, (zs, out, refl, subst (λ n. f.image v r n out) (at ∙ rounded part) image, refl), is))

  pub root_ends : Ends (root_run s f v p)
  root_ends =
      ends_as parts_run _ (λ x. tt) parts_ends root_next
      (λ b u h. let w = root_writes b h.0 h.1 in ((w.0, (tt, tt)), w.1, refl))
