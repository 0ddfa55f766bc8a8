-- The write of a table ends in one way.
use Rattle.std.proofs.Common.{◌≡◌, ℕ, ◌+◌, ◌∙◌, refl, sym, ap, subst, arith, inl, inr, List, [], ◌++◌, length, Option, append-nil, append_assoc, length-append}
use Rattle.std.proofs.lemmas.List.{length-replicate}
use Rattle.rkyv_base.specs.{ElementSpec, Format, Step, padding, zeros}
use Rattle.rkyv_table.proofs.PartSteps.{parts_filled}
use Rattle.rkyv_table.specs.{BucketNext, SlotImages, TableBytes, TableNext}
use Rattle.rkyv_table.specs.Lemmas.Buckets.{images_length}
use Rattle.rkyv_dict.proofs.Ends.{Ends, Run, ends_as, piece_ends, piece_run, then_ends, then_run}
use Rattle.rkyv_dict.proofs.BucketEnds.{buckets_end, buckets_run}
use Rattle.rkyv_dict.proofs.FormatEnds.{EndsOneWay, IsSized}
use Rattle.rkyv_dict.proofs.SlotEnds.{slots_end, slots_run}

-- the zeros between position `p + n` and the next multiple of `align`
abbrev pub gap : ℕ → ℕ → ℕ → List ℕ
gap align p n = zeros (padding align (p + n))

-- the zeros after `n` bytes, then the write at the next multiple of `align`
abbrev pub aligned_run : {R : Type 0} → ℕ → ℕ → (ℕ → Run R) → ℕ → Run (Unit {0} × R)
aligned_run align p run n = then_run (piece_run (gap align p n)) (λ m u. run (p + n + m))

pub aligned_ends : {R : Type 0} (align p : ℕ) (run : ℕ → Run R) (n : ℕ) → ((q : ℕ) → Ends (run q)) → Ends (aligned_run align p run n)
aligned_ends align p run n rule = then_ends (piece_run (gap align p n)) (λ m u. run (p + n + m)) (piece_ends (gap align p n)) (λ a u m. rule (p + n + length a))

-- the write of the table
abbrev pub table_run : {X R : Type 0} → ElementSpec → Format X R → List (Option X) → List ℕ → ℕ → Run (Unit {0})
table_run s f slots controls p = record { next = TableNext s f slots controls p; writes = λ part u. (z : ℕ) × TableBytes s f slots controls p z part }

module _ {X R : Type 0} (s : ElementSpec) (f : Format X R) (ends : EndsOneWay f) (sized : IsSized s.size f) (slots : List (Option X)) (controls : List ℕ) (p : ℕ) where
  -- the buckets from position `q` on, then the controls
  abbrev back_run : List R → ℕ → Run (Unit {0} × Unit {0})
  back_run rs q = then_run (buckets_run s.size f q slots rs) (λ m u. piece_run controls)

  -- the parts of the items, then the zeros, the buckets and the controls
  abbrev whole_run : Run (List R × (Unit {0} × (Unit {0} × Unit {0})))
  whole_run = then_run (slots_run f slots p) (λ n rs. aligned_run s.align p (back_run rs) n)

  whole_ends : Ends whole_run
  whole_ends =
      then_ends (slots_run f slots p) (λ n rs. aligned_run s.align p (back_run rs) n) (slots_end f ends slots p)
      (λ a rs made. aligned_ends s.align p (back_run rs) (length a) (λ q.
      then_ends (buckets_run s.size f q slots rs) (λ m u. piece_run controls) (buckets_end s.size f sized q slots rs (parts_filled f slots p a rs made)) (λ b u m. piece_ends controls)))

  behind_gap : (a g : List ℕ) → p + length ((a ++ gap s.align p (length a)) ++ g) ≡ p + length a + length (gap s.align p (length a)) + length g
  behind_gap a g = omega (arith, length-append (a ++ gap s.align p (length a)) g, length-append a (gap s.align p (length a)))

  whole_next : (front : List ℕ) (step : Step) → TableNext s f slots controls p front step → whole_run.next front step
  whole_next front step (inl h) = inl h
  whole_next front step (inr (inl h)) = inr (front, h.0, [], h.1, inl (refl, h.2), sym (append-nil front))
  whole_next front step (inr (inr (inl (a, rs, b, g, before, next, is)))) =
      let zs = gap s.align p (length a) in
      let at : p + length b ≡ p + length a + length zs = ap (λ (l : List ℕ). p + length l) before.1 ∙ omega (arith, length-append a zs) in
      inr (a, rs, zs ++ g, before.0, inr (zs, tt, g, refl, inl (subst (λ n. BucketNext s.size f slots rs n g step) at next), refl), is ∙ ap (λ l. l ++ g) before.1 ∙ append_assoc a zs g)
  whole_next front step (inr (inr (inr (a, rs, b, g, before, images, is, last)))) =
      let zs = gap s.align p (length a) in
      let at : p + length front ≡ p + length a + length zs + length g = ap (λ (l : List ℕ). p + length l) (is ∙ ap (λ l. l ++ g) before.1) ∙ behind_gap a g in
      let buckets = subst (λ n. SlotImages s.size f slots rs n g) at images in
      inr (a, rs, zs ++ g, before.0, inr (zs, tt, g, refl, inr (g, tt, [], buckets, (refl, last), sym (append-nil g)), refl), is ∙ ap (λ l. l ++ g) before.1 ∙ append_assoc a zs g)

  whole_writes : (part : List ℕ) (z : ℕ) → TableBytes s f slots controls p z part → (rs : List R) × whole_run.writes part (rs, (tt, (tt, tt)))
  whole_writes part z t = grind (arith, length-replicate, images_length)

  pub table_ends : Ends (table_run s f slots controls p)
  table_ends =
      ends_as whole_run _ (λ x. tt) whole_ends (λ front step known h. whole_next front step h)
      (λ part u h. let w = whole_writes part h.0 h.1 in ((w.0, (tt, (tt, tt))), w.1, refl))
