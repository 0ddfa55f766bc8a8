-- The write of a table's buckets ends in one way.
use Rattle.std.proofs.Common.{◌≡◌, ℕ, zero, suc, ◌+◌, ◌-◌, ◌∙◌, refl, sym, ap, subst, arith, inl, inr, List, [], ◌∷◌, ◌++◌, length, drop, take, Option, None, Some, append-nil, length-append}
use Rattle.std.proofs.lemmas.Grind.{common_steps}
use Rattle.std.specs.Prelude.{◌⊎◌, slice_get}
use Rattle.std.proofs.Math.ListN.{drop_of_length-le}
use Rattle.std.proofs.Math.Seq.{drop-append_seam}
use Rattle.std.proofs.lemmas.List.{length-replicate, take-append-drop}
use Rattle.std.proofs.lemmas.Option.{none-some, same_Some}
use Rattle.rkyv_base.specs.{Format, Step, distance, failure, piece, zeros}
use Rattle.rkyv_table.proofs.PartSteps.{filled-append}
use Rattle.rkyv_table.specs.{BucketNext, BucketStep, SlotImages, filled}
use Rattle.rkyv_dict.proofs.Ends.{Ends, Run, ends_as, no_ends, no_run, piece_ends, piece_run, then_ends, then_run}
use Rattle.rkyv_dict.proofs.FormatEnds.{IsSized, image_ends, image_run}

-- the write of the buckets of the slots from position `p` on
abbrev pub buckets_run : {X R : Type 0} → ℕ → Format X R → ℕ → List (Option X) → List R → Run (Unit {0})
buckets_run size f p ss rs = record { next = BucketNext size f ss rs p; writes = λ out u. SlotImages size f ss rs (p + length out) out }

module _ {X R : Type 0} (size : ℕ) (f : Format X R) (sized : IsSized size f) (p : ℕ) where
  -- `step`: step of writing one bucket at position `q`, which is that of the slot and the resolver
  abbrev SlotStep : Option (Option X) → Option R → ℕ → Step → Type 0
  SlotStep None r q step = ⊥
  SlotStep (Some None) r q step = step ≡ piece (zeros size)
  SlotStep (Some (Some x)) None q step = ⊥
  SlotStep (Some (Some x)) (Some r) q step = ((out : List ℕ) × f.image x r q out × (step ≡ piece out)) ⊎ (f.overflow x r q × (step ≡ failure distance))

  -- `step`: next step of writing the buckets, which is that of a slot after the buckets above it
  abbrev IndexedNext : List (Option X) → List R → List ℕ → Step → Type 0
  IndexedNext ss rs front step = (i : ℕ) × SlotImages size f (drop (suc i) ss) (drop (filled (take (suc i) ss)) rs) (p + length front) front
      × SlotStep (slice_get ss i) (slice_get rs (filled (take i ss))) (p + length front) step

  -- the buckets of the slots from position `p` on
  abbrev indexed_run : List (Option X) → List R → Run (Unit {0})
  indexed_run ss rs = record { next = IndexedNext ss rs; writes = λ out u. SlotImages size f ss rs (p + length out) out }

  -- the bucket of the first slot at position `q`
  abbrev head_run : Option X → List R → ℕ → Run (Unit {0})
  head_run None rs q = piece_run (zeros size)
  head_run (Some x) [] q = no_run
  head_run (Some x) (r ∷ rs) q = image_run f x r q

  -- the resolvers of the slots after the first
  abbrev others : Option X → List R → List R
  others None rs = rs
  others (Some x) rs = drop 1 rs

  abbrev both_run : Option X → List (Option X) → List R → Run (Unit {0} × Unit {0})
  both_run s ss rs = then_run (indexed_run ss (others s rs)) (λ n u. head_run s rs (p + n))

  head_ends : (s : Option X) (rs : List R) (q : ℕ) → Ends (head_run s rs q)
  head_ends None rs q = piece_ends (zeros size)
  head_ends (Some x) [] q = no_ends
  head_ends (Some x) (r ∷ rs) q = image_ends size f sized x r q

  both_next : (s : Option X) (ss : List (Option X)) (rs : List R) (front : List ℕ) (step : Step) → IndexedNext (s ∷ ss) rs front step → (both_run s ss rs).next front step
  both_next None ss rs front step (zero, above, own) = inr (front, tt, [], above, (refl, own), sym (append-nil front))
  both_next None ss rs front step (suc i, above, own) = inl (i, above, own)
  both_next (Some x) ss [] front step (zero, above, own) = absurd own
  both_next (Some x) ss [] front step (suc i, above, own) =
      let none : [] ≡ drop (filled (take (suc i) ss)) [] = sym (drop_of_length-le [] (omega arith)) in
      inl (i, subst (λ (l : List R). SlotImages size f (drop (suc i) ss) l (p + length front) front) none above, own)
  both_next (Some x) ss (r ∷ rs) front step (zero, above, own) = inr (front, tt, [], above, (refl, own), sym (append-nil front))
  both_next (Some x) ss (r ∷ rs) front step (suc i, above, own) = inl (i, above, own)

  some_writes : (x : X) (ss : List (Option X)) (r : R) (qs : List R) (rest one : List ℕ) (z : ℕ) → z ≡ p + length (rest ++ one) → f.image x r (z - size) one → SlotImages size f ss qs (z - size) rest
      → (both_run (Some x) ss (r ∷ qs)).writes (rest ++ one) (tt, tt)
  some_writes x ss r qs rest one z e image images =
      let at : z - size ≡ p + length rest = omega (arith, e, length-append rest one, sized.size_exact x r (z - size) one image) in
      (rest, one, subst (λ k. SlotImages size f ss qs k rest) at images, subst (λ k. f.image x r k one) at image, refl)

  both_writes : (s : Option X) (ss : List (Option X)) (rs : List R) (out : List ℕ) → SlotImages size f (s ∷ ss) rs (p + length out) out → (both_run s ss rs).writes out (tt, tt)
  both_writes None ss rs out (rest, images, is) =
      let at : p + length out - size ≡ p + length rest = omega (arith, ap length is, length-append rest (zeros size), length-replicate {A = ℕ} size 0) in
      (rest, zeros size, subst (λ k. SlotImages size f ss rs k rest) at images, refl, is)
  both_writes (Some x) ss rs out (r, qs, rest, one, same, image, images, is) =
      subst (λ (k : List R). (both_run (Some x) ss k).writes out (tt, tt)) (sym same) (subst (λ o. (both_run (Some x) ss (r ∷ qs)).writes o (tt, tt)) (sym is)
      (some_writes x ss r qs rest one (p + length out) (ap (λ (l : List ℕ). p + length l) is) image images))

  indexed_ends : (ss : List (Option X)) (rs : List R) → Ends (indexed_run ss rs)
  indexed_ends [] rs = grind (arith, common_steps)
  indexed_ends (s ∷ ss) rs =
      ends_as (both_run s ss rs) _ (λ u. tt) (then_ends (indexed_run ss (others s rs)) (λ n u. head_run s rs (p + n)) (indexed_ends ss (others s rs)) (λ a u m. head_ends s rs (p + length a)))
      (λ front step known h. both_next s ss rs front step h) (λ out u h. ((tt, tt), both_writes s ss rs out h, refl))

  images_filled : (ss : List (Option X)) (rs : List R) (z : ℕ) (out : List ℕ) → SlotImages size f ss rs z out → length rs ≡ filled ss
  images_filled [] rs z out h = ap length h.0
  images_filled (None ∷ ss) rs z out h = images_filled ss rs (z - size) h.0 h.1
  images_filled (Some x ∷ ss) rs z out h = ap length h.4 ∙ ap suc (images_filled ss h.1 (z - size) h.2 h.6)

  filled_more : (ss : List (Option X)) (i : ℕ) (x : X) → slice_get ss i ≡ Some (Some x) → filled (take (suc i) ss) ≡ suc (filled (take i ss))
  filled_more [] i x e = absurd (none-some (Some x) e)
  filled_more (None ∷ ss) zero x e = absurd (none-some x (same_Some None (Some x) e))
  filled_more (Some y ∷ ss) zero x e = refl
  filled_more (None ∷ ss) (suc i) x e = filled_more ss i x e
  filled_more (Some y ∷ ss) (suc i) x e = ap suc (filled_more ss i x e)

  get_between : (more : List R) (r : R) (done : List R) → slice_get ((more ++ (r ∷ [])) ++ done) (length more) ≡ Some r
  get_between [] r done = refl
  get_between (m ∷ more) r done = get_between more r done

  module _ (ss : List (Option X)) (rs : List R) (count : length rs ≡ filled ss) (i : ℕ) (left done : List R) (is : rs ≡ left ++ done) (z : ℕ) (front : List ℕ) (above : SlotImages size f (drop (suc i) ss) done z front) where
    left_filled : length left ≡ filled (take (suc i) ss)
    left_filled =
        let whole = ap filled (take-append-drop (suc i) ss) in
        omega (arith, count, ap length is, length-append left done, images_filled (drop (suc i) ss) done z front above, filled-append (take (suc i) ss) (drop (suc i) ss), whole)

    done_dropped : done ≡ drop (filled (take (suc i) ss)) rs
    done_dropped = sym (ap (λ n. drop n rs) (sym left_filled) ∙ ap (drop (length left)) is ∙ drop-append_seam left done)

    resolver_at : (x : X) (more : List R) (r : R) → slice_get ss i ≡ Some (Some x) → left ≡ more ++ (r ∷ []) → slice_get rs (filled (take i ss)) ≡ Some r
    resolver_at x more r at last =
        let n : filled (take i ss) ≡ length more = omega (arith, left_filled, filled_more ss i x at, ap length last, length-append more (r ∷ [])) in
        ap (slice_get rs) n ∙ ap (λ (l : List R). slice_get l (length more)) (is ∙ ap (λ l. l ++ done) last) ∙ get_between more r done

    slot_step : (s : Option X) (q : ℕ) (step : Step) → slice_get ss i ≡ Some s → BucketStep size f s left q step → SlotStep (slice_get ss i) (slice_get rs (filled (take i ss))) q step
    slot_step None q step at (inl (more, out, fills, e)) = rw at (e ∙ ap piece fills.1)
    slot_step None q step at (inr (overflow, e)) = absurd overflow
    slot_step (Some x) q step at (inl (more, out, (r, last, image), e)) = rw (at, resolver_at x more r at last) (inl (out, image, e))
    slot_step (Some x) q step at (inr ((r, more, last, overflow), e)) = rw (at, resolver_at x more r at last) (inr (overflow, e))

  next_of : (ss : List (Option X)) (rs : List R) → length rs ≡ filled ss → (front : List ℕ) (step : Step) → BucketNext size f ss rs p front step → IndexedNext ss rs front step
  next_of ss rs count front step (i, left, (done, is, images), s, at, own) =
      let next : i + 1 ≡ suc i = omega arith in
      let above = subst (λ n. SlotImages size f (drop n ss) done (p + length front) front) next images in
      let same = done_dropped ss rs count i left done is (p + length front) front above in
      (i, subst (λ (l : List R). SlotImages size f (drop (suc i) ss) l (p + length front) front) same above, slot_step ss rs count i left done is (p + length front) front above s (p + length front) step at own)

  pub buckets_end : (ss : List (Option X)) (rs : List R) → length rs ≡ filled ss → Ends (buckets_run size f p ss rs)
  buckets_end ss rs count = ends_as (indexed_run ss rs) _ (λ u. tt) (indexed_ends ss rs) (λ front step known h. next_of ss rs count front step h) (λ out u h. (tt, h, refl))
