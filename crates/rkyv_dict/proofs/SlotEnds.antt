-- Serialization of a table's items ends in one way.
use Rattle.std.proofs.Common.{◌≡◌, ℕ, zero, suc, ◌+◌, ◌∙◌, refl, sym, ap, subst, arith, inl, inr, List, [], ◌∷◌, ◌++◌, length, Option, None, Some, append_assoc, length-append}
use Rattle.std.proofs.lemmas.Grind.{common_steps}
use Rattle.std.proofs.lemmas.Option.{none-some, same_Some}
use Rattle.rkyv_base.specs.{Format, Step}
use Rattle.rkyv_table.specs.{PartsNext, SlotParts}
use Rattle.rkyv_dict.proofs.Ends.{Ends, Run, ends_as, serialization, then_ends, then_run}
use Rattle.rkyv_dict.proofs.FormatEnds.{EndsOneWay}

-- the serialization of the items in the slots
abbrev pub slots_run : {X R : Type 0} → Format X R → List (Option X) → ℕ → Run (List R)
slots_run f ss p = record { next = PartsNext f ss p; writes = SlotParts f ss p }

module _ {X R : Type 0} (f : Format X R) (ends : EndsOneWay f) where
  -- the first slot, then the others
  abbrev first_run : X → List (Option X) → ℕ → Run (R × List R)
  first_run x ss p = then_run (serialization f x p) (λ n r. slots_run f ss (p + n))

  none_next : (ss : List (Option X)) (p : ℕ) (front : List ℕ) (step : Step) → PartsNext f (None ∷ ss) p front step → PartsNext f ss p front step
  none_next ss p front step (zero, x, a, rs, rest, at, made, next, is) = absurd (none-some x (same_Some None (Some x) at))
  none_next ss p front step (suc i, x, a, rs, rest, at, made, next, is) = (i, x, a, rs, rest, at, made, next, is)

  some_next : (y : X) (ss : List (Option X)) (p : ℕ) (front : List ℕ) (step : Step) → PartsNext f (Some y ∷ ss) p front step → (first_run y ss p).next front step
  some_next y ss p front step (zero, x, a, rs, rest, at, made, next, is) =
      let e : y ≡ x = same_Some y x (same_Some (Some y) (Some x) at) in
      let here : p + length a ≡ p = ap (λ (l : List ℕ). p + length l) made.0 ∙ omega arith in
      let whole : front ≡ rest = is ∙ ap (λ l. l ++ rest) made.0 in
      inl (subst (λ z. f.next z p front step) (sym e) (subst (λ n. f.next x n front step) here (subst (λ (l : List ℕ). f.next x (p + length a) l step) (sym whole) next)))
  some_next y ss p front step (suc i, x, a, rs, rest, at, made, next, is) =
      let n : p + length a ≡ p + length made.0 + length made.2 = ap (λ (l : List ℕ). p + length l) made.6 ∙ omega (arith, length-append made.0 made.2) in
      inr (made.0, made.1, made.2 ++ rest, made.4, (i, x, made.2, made.3, rest, at, made.5, subst (λ k. f.next x k rest step) n next, refl), is ∙ ap (λ l. l ++ rest) made.6 ∙ append_assoc made.0 made.2 rest)

  pub slots_end : (ss : List (Option X)) (p : ℕ) → Ends (slots_run f ss p)
  slots_end [] p = grind (arith, common_steps)
  slots_end (None ∷ ss) p = ends_as (slots_run f ss p) _ (λ rs. rs) (slots_end ss p) (λ front step known h. none_next ss p front step h) (λ part rs h. (rs, h, refl))
  slots_end (Some x ∷ ss) p =
      ends_as (first_run x ss p) _ (λ y. y.0 ∷ y.1) (then_ends (serialization f x p) (λ n r. slots_run f ss (p + n)) (ends.ends x p) (λ a r m. slots_end ss (p + length a)))
      (λ front step known h. some_next x ss p front step h) (λ part rs h. ((h.1, h.3), (h.0, h.2, h.4, h.5, h.6), h.7))
