-- One slot more whose item is serialized.
use Rattle.std.proofs.Common.{◌≡◌, ℕ, suc, ◌+◌, ◌<◌, ◌≤◌, refl, sym, ap, ◌∙◌, subst, arith, List, [], ◌∷◌, ◌++◌, length, get_or, take, drop, Option, Some, None, append-nil}
use Rattle.std.proofs.lemmas.Grind.{common_steps}
use Rattle.std.specs.Prelude.{slice_get}
use Rattle.std.proofs.lemmas.List.{take-append-drop, take_more}
use Rattle.std.proofs.lemmas.Option.{slice_get-get_or}
use Rattle.rkyv_base.specs.declared.errors.WriteError.{WriteError}
use Rattle.rkyv_base.specs.{Appends, Format, Output, Within, WriteFails, end_of}
use Rattle.rkyv_base.specs.Lemmas.Writing.{end-appends, fails_after}
use Rattle.rkyv_table.specs.{PartsNext, SlotParts, filled}

zero_plus : (n : ℕ) → 0 + n ≡ n
zero_plus n = omega arith

suc_plus : (m n : ℕ) → suc m + n ≡ suc (m + n)
suc_plus m n = omega arith

pub filled-append : {A : Type 0} (xs ys : List (Option A)) → filled (xs ++ ys) ≡ filled xs + filled ys
filled-append [] ys = sym (zero_plus (filled ys))
filled-append (None ∷ xs) ys = filled-append xs ys
filled-append (Some x ∷ xs) ys = ap suc (filled-append xs ys) ∙ sym (suc_plus (filled xs) (filled ys))

pub filled_front : {A : Type 0} (xs : List (Option A)) (i : ℕ) → filled (take i xs) ≤ filled xs
filled_front xs i = grind (arith, common_steps, filled-append (take i xs) (drop i xs), take-append-drop i xs)

module _ {X R : Type 0} (f : Format X R) where
  -- the part of one value, and the parts after it
  abbrev pub PartThen : X → (ℕ → List ℕ → List R → Type 0) → ℕ → List ℕ → List R → Type 0
  PartThen x Rest p part rs = (a : List ℕ) × (r : R) × (b : List ℕ) × (qs : List R) × f.parts x p a r × Rest (p + length a) b qs × (part ≡ a ++ b) × (rs ≡ r ∷ qs)

  -- nothing is after the part of the last value
  pub part_last : (Rest : ℕ → List ℕ → List R → Type 0) (p : ℕ) (part : List ℕ) (rs : List R) (x : X) (a : List ℕ) (r : R) → (part ≡ []) × (rs ≡ [])
      → ((q : ℕ) → Rest q [] []) → f.parts x (p + length part) a r → PartThen x Rest p (part ++ a) (rs ++ r ∷ [])
  part_last Rest p part rs x a r h none g =
      let z : p + length part ≡ p = ap (λ (l : List ℕ). p + length l) h.0 ∙ omega arith in
      (a, r, [], [], subst (λ n. f.parts x n a r) z g, none (p + length a), ap (λ l. l ++ a) h.0 ∙ sym (append-nil a), ap (λ l. l ++ r ∷ []) h.1)

  -- a part added at the end is after the others
  pub part_longer : (Rest Longer : ℕ → List ℕ → List R → Type 0) (y : X) (p : ℕ) (part : List ℕ) (rs : List R) (x : X) (a : List ℕ) (r : R) → PartThen y Rest p part rs
      → ((q : ℕ) (b : List ℕ) (qs : List R) → Rest q b qs → f.parts x (q + length b) a r → Longer q (b ++ a) (qs ++ r ∷ []))
      → f.parts x (p + length part) a r → PartThen y Longer p (part ++ a) (rs ++ r ∷ [])
  part_longer Rest Longer y p part rs x a r h longer g = grind (arith, common_steps)

  pub parts_none : (ss : List (Option X)) (p : ℕ) (part : List ℕ) (rs : List R) → SlotParts f ss p part rs → SlotParts f (ss ++ None ∷ []) p part rs
  parts_none [] p part rs h = h
  parts_none (None ∷ ss) p part rs h = parts_none ss p part rs h
  parts_none (Some x ∷ ss) p part rs h = (h.0, h.1, h.2, h.3, h.4, parts_none ss (p + length h.0) h.2 h.3 h.5, h.6, h.7)

  pub parts_some : (ss : List (Option X)) (p : ℕ) (part : List ℕ) (rs : List R) (x : X) (a : List ℕ) (r : R)
      → SlotParts f ss p part rs → f.parts x (p + length part) a r → SlotParts f (ss ++ Some x ∷ []) p (part ++ a) (rs ++ r ∷ [])
  parts_some [] p part rs x a r h g = part_last (SlotParts f []) p part rs x a r h (λ q. (refl, refl)) g
  parts_some (None ∷ ss) p part rs x a r h g = parts_some ss p part rs x a r h g
  parts_some (Some y ∷ ss) p part rs x a r h g =
      part_longer (SlotParts f ss) (SlotParts f (ss ++ Some x ∷ [])) y p part rs x a r h (λ q b qs k. parts_some ss q b qs x a r k) g

  pub parts_filled : (ss : List (Option X)) (p : ℕ) (part : List ℕ) (rs : List R) → SlotParts f ss p part rs → length rs ≡ filled ss
  parts_filled [] p part rs h = ap length h.1
  parts_filled (None ∷ ss) p part rs h = parts_filled ss p part rs h
  parts_filled (Some x ∷ ss) p part rs h = ap length h.7 ∙ ap suc (parts_filled ss (p + length h.0) h.2 h.3 h.5)

  module _ (slots : List (Option X)) (i : ℕ) (inside : i < length slots) (o o1 : Output) (part : List ℕ) (rs : List R) (a1 : Appends o o1 part)
      (h : SlotParts f (take i slots) (end_of o) part rs) where
    -- the items before `i + 1`, if slot `i` is empty
    pub step_none : get_or slots i None ≡ None → SlotParts f (take (i + 1) slots) (end_of o) part rs
    step_none e = rw (take_more slots i None inside, e) (parts_none (take i slots) (end_of o) part rs h)

    module _ (x : X) (e : get_or slots i None ≡ Some x) where
      pub step_some : (a : List ℕ) (r : R) → f.parts x (end_of o1) a r → SlotParts f (take (i + 1) slots) (end_of o) (part ++ a) (rs ++ r ∷ [])
      step_some a r g = rw (take_more slots i None inside, e) (parts_some (take i slots) (end_of o) part rs x a r h (subst (λ n. f.parts x n a r) (end-appends o o1 part a1) g))

      -- there is room for a resolver
      pub step_room : (n : ℕ) → filled slots ≤ n → length rs < n
      step_room n most = grind (arith, common_steps, parts_filled, take_more, filled-append, filled_front)

      pub step_fails : {F : Type 0} (limit : ℕ) (o2 : Output) (err : WriteError F) → Within limit o1 part
          → WriteFails limit (f.next x (end_of o1)) o1 o2 err → WriteFails limit (PartsNext f slots (end_of o)) o o2 err
      step_fails limit o2 err within t =
          let at : end_of o1 ≡ end_of o + length part = end-appends o o1 part a1 in
          let s : slice_get slots i ≡ Some (Some x) = slice_get-get_or slots i None inside ∙ ap Some e in
          fails_after limit (PartsNext f slots (end_of o)) (f.next x (end_of o1)) o o1 o2 part err a1 within
          (λ g step n. (i, x, part, rs, g, s, h, subst (λ k. f.next x k g step) at n, refl))
          t
