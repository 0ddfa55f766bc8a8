-- One pair more taken, and put into its bucket.
use Rattle.std.proofs.lemmas.Grind.{common_steps}
use Rattle.std.proofs.Common.{◌≡◌, ◌≢◌, ℕ, zero, suc, ◌+◌, ◌^◌, ◌<◌, ◌⊎◌, inl, inr, refl, sym, ap, ◌∙◌, subst, arith, List, [], ◌∷◌, ◌++◌, length, get_or, set, replicate, Option, Some, None, true, length-set, add-one}
use Rattle.std.specs.Prelude.{slice_get}
use Rattle.std.specs.List.{find}
use Rattle.std.specs.Iterator.{Yields}
use Rattle.std.proofs.lemmas.List.{get_or_append_left, get_or_push, length-map, length-replicate, length_push, map-append}
use Rattle.std.proofs.lemmas.List.Elements.{All-append, All-cons, All-nil}
use Rattle.std.proofs.lemmas.List.Folds.{list_any-append}
use Rattle.std.proofs.lemmas.Option.{none-some, same_Some, slice_get_within}
use Rattle.std.proofs.lemmas.Bool.{both_ways, eq-eqb, leb-true, not-true, not_from_false, or_parts}
use Rattle.rkyv_table.specs.{AreHashes, AreInSlots, ArePlaced, HasRoom, filled, fresh_controls, hashes_of, is_empty_at, is_free, items_of, probed, strides, tag, with_control}
use Rattle.rkyv_table.proofs.Written.{probed_below}
use Rattle.rkyv_table.proofs.WrittenStep.{free_empty, fresh, one_more, room_left}
use Rattle.rkyv_table.proofs.Lists.{some_find}

pub yields_more : {S A : Type 0} (steps : S → Option A → S → Type 0) (s t u : S) (xs : List A) (x : A) → Yields steps s xs t → steps t (Some x) u → Yields steps s (xs ++ x ∷ []) u
yields_more steps s t u [] x y e = (u, subst (λ z. steps z (Some x) u) (sym y) e, refl)
yields_more steps s t u (a ∷ xs) x y e = (y.0, y.1, yields_more steps y.0 t u xs x y.2 e)

pub yields_join : {S A : Type 0} (steps : S → Option A → S → Type 0) (s t u : S) (xs ys : List A) → Yields steps s xs t → Yields steps t ys u → Yields steps s (xs ++ ys) u
yields_join steps s t u [] ys y e = subst (λ z. Yields steps z ys u) (sym y) e
yields_join steps s t u (a ∷ xs) ys y e = (y.0, y.1, yields_join steps y.0 t u xs ys y.2 e)

get_set_same : {A : Type 0} (xs : List A) (i : ℕ) (x : A) → i < length xs → slice_get (set xs i x) i ≡ Some x
get_set_same [] i x h = absurd (omega arith)
get_set_same (y ∷ xs) zero x h = refl
get_set_same (y ∷ xs) (suc i) x h = get_set_same xs i x (omega arith)

get_set_other : {A : Type 0} (xs : List A) (i j : ℕ) (x : A) → j ≢ i → slice_get (set xs i x) j ≡ slice_get xs j
get_set_other [] i j x h = refl
get_set_other (y ∷ xs) zero zero x h = absurd (h refl)
get_set_other (y ∷ xs) zero (suc j) x h = refl
get_set_other (y ∷ xs) (suc i) zero x h = refl
get_set_other (y ∷ xs) (suc i) (suc j) x h = get_set_other xs i j x (λ e. h (ap suc e))

get_push : {A : Type 0} (xs : List A) (y x : A) (i : ℕ) → slice_get (xs ++ y ∷ []) i ≡ Some x → (slice_get xs i ≡ Some x) ⊎ ((i ≡ length xs) × (y ≡ x))
get_push [] y x zero h = inr (refl, same_Some y x h)
get_push [] y x (suc i) h = absurd (none-some x h)
get_push (z ∷ xs) y x zero h = inl h
get_push (z ∷ xs) y x (suc i) h = elim (get_push xs y x i h) [ inl a ↦ inl a | inr b ↦ inr (ap suc b.0, b.1) ]

get_replicate : {A : Type 0} (n i : ℕ) (x : A) → i < n → slice_get (replicate n x) i ≡ Some x
get_replicate zero i x h = absurd (omega arith)
get_replicate (suc n) zero x h = refl
get_replicate (suc n) (suc i) x h = get_replicate n i x (omega arith)

filled_none : (A : Type 0) (n : ℕ) → filled {X = A} (replicate n None) ≡ 0
filled_none A zero = refl
filled_none A (suc n) = filled_none A n

suc_one : (n : ℕ) → suc (n + 1) ≡ suc n + 1
suc_one n = omega arith

filled_set : {A : Type 0} (ss : List (Option A)) (b : ℕ) (x : A) → slice_get ss b ≡ Some None → filled (set ss b (Some x)) ≡ filled ss + 1
filled_set [] b x h = absurd (none-some None h)
filled_set (None ∷ ss) zero x h = sym (add-one (filled ss))
filled_set (Some y ∷ ss) zero x h = absurd (none-some y (sym (same_Some (Some y) None h)))
filled_set (None ∷ ss) (suc b) x h = filled_set ss b x h
filled_set (Some y ∷ ss) (suc b) x h = ap suc (filled_set ss b x h) ∙ suc_one (filled ss)

fit_more : (hashes : List ℕ) (h : ℕ) → AreHashes hashes → h < 2 ^ 64 → AreHashes (hashes ++ h ∷ [])
fit_more hashes h f hh = All-append (λ x. x < 2 ^ 64) hashes (h ∷ []) f (All-cons (λ x. x < 2 ^ 64) h [] hh (All-nil (λ x. x < 2 ^ 64)))

module _ {X : Type 0} (cap : ℕ) (homes : List ℕ) (items : List X) (slots : List (Option X)) (b : ℕ) (x : X) where
  slotted_more : AreInSlots cap homes items slots → b < cap → is_free homes b ≡ true → ((i : ℕ) → i < length homes → get_or homes i 0 ≢ b) → AreInSlots cap (homes ++ b ∷ []) (items ++ x ∷ []) (set slots b (Some x))
  slotted_more s hb free apart =
      grind (arith, filled_set, length_push, length-set, get_push, slice_get_within, get_or_append_left, get_set_other, get_or_push, get_set_same, not-true, or_parts, list_any-append, both_ways, eq-eqb, not_from_false)

module _ {X : Type 0} (cap : ℕ) (pairs : List (ℕ × X)) (slots : List (Option X)) (controls : List ℕ) where
  -- the first empty bucket that a hash shows has a slot
  pub bucket_inside : 0 < cap → ArePlaced cap pairs slots controls → (h b : ℕ) → find (is_empty_at controls) (probed h cap) ≡ Some b → b < length slots
  bucket_inside pos p h b e = omega (arith, probed_below (is_empty_at controls) cap b (strides h cap) pos e, p.slotted.count)

  -- some bucket is empty
  pub placed_room : ArePlaced cap pairs slots controls → length pairs < cap → HasRoom cap controls
  placed_room p h = grind (arith, length-map, room_left)

  module _ (h b : ℕ) (x : X) where
    pub placed_more : 0 < cap → ArePlaced cap pairs slots controls → h < 2 ^ 64 → find (is_empty_at controls) (probed h cap) ≡ Some b
        → ArePlaced cap (pairs ++ (h, x) ∷ []) (set slots b (Some x)) (with_control controls cap b (tag h))
    placed_more pos p hh e =
        let homes : List ℕ = p.homes in
        let w = p.written in
        let fits : (j : ℕ) → j < length (hashes_of pairs) → get_or (hashes_of pairs) j 0 < 2 ^ 64 = λ j l. p.hashes j 0 l in
        let hb : b < cap = probed_below (is_empty_at controls) cap b (strides h cap) pos e in
        let fb = leb-true 128 (get_or controls b 0) (some_find (is_empty_at controls) (probed h cap) b e).1 in
        let apart : (i : ℕ) → i < length homes → get_or homes i 0 ≢ b = grind (arith, common_steps) in
        let mh : hashes_of (pairs ++ (h, x) ∷ []) ≡ hashes_of pairs ++ h ∷ [] = map-append (λ (y : ℕ × X). y.0) pairs ((h, x) ∷ []) in
        let mi : items_of (pairs ++ (h, x) ∷ []) ≡ items_of pairs ++ x ∷ [] = map-append (λ (y : ℕ × X). y.1) pairs ((h, x) ∷ []) in
        grind (
          arith,
          common_steps,
          one_more cap h b (hashes_of pairs) homes controls pos w fits hh e,
          slotted_more cap homes (items_of pairs) slots b x p.slotted hb (free_empty cap (hashes_of pairs) homes controls b w fits hb ∙ (some_find (is_empty_at controls) (probed h cap) b e).1) apart,
          free_empty cap (hashes_of pairs) homes controls b w fits hb,
          some_find (is_empty_at controls) (probed h cap) b e,
          fit_more (hashes_of pairs) h p.hashes hh,
        )

-- no pair is placed
pub placed_none : {X : Type 0} (cap : ℕ) → 0 < cap → ArePlaced {X = X} cap [] (replicate cap None) (fresh_controls cap)
placed_none {X = X} cap pos = record {
  homes = [];
  hashes = All-nil (λ h. h < 2 ^ 64);
  written = fresh cap pos;
  slotted = record {
    count = length-replicate cap None;
    full = filled_none X cap;
    items_count = refl;
    at = λ i x e. absurd (none-some x e);
    others = λ b hb f. get_replicate cap b None hb;
  };
}
