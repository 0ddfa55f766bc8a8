-- Lemmas: the full buckets of a written table are the slots that have an item.
use Rattle.std.proofs.lemmas.Grind.{common_steps}
use Rattle.std.proofs.Common.{arith, refl, sym, ◌∙◌, ap, inl, inr, zero}
use Rattle.std.proofs.lemmas.Bool.{cases_Bool, eqb-true, le-ltb, lt-ltb, not-false}
use Rattle.std.proofs.lemmas.List.{get_or_default}
use Rattle.std.proofs.lemmas.List.Folds.{Any-from_list_any}
use Rattle.std.proofs.lemmas.Option.{none-some, same_Some, slice_get_within}
use Rattle.std.specs.List.{list_any, range_with_len}
use Rattle.std.specs.Prelude.{◌≡◌, ℕ, suc, ◌+◌, ◌<◌, List, [], ◌∷◌, Bool, true, false, eqb}
use Rattle.std.specs.Prelude.{None, Option, Some, filter, length, slice_get, slice_index}
use Rattle.rkyv_scan.specs.{is_full}
use Rattle.rkyv_table.specs.{ArePlaced, filled, filled_from, is_free, items_of, walk}

pub filled_count : {X : Type 0} (b : ℕ) (ss : List (Option X))
    → length (filled_from b ss) ≡ filled ss
filled_count b [] = refl
filled_count b (None ∷ ss) = filled_count (b + 1) ss
filled_count b (Some x ∷ ss) = ap suc (filled_count (b + 1) ss)

-- a test of buckets that is `true` if and only if the slot has an item
abbrev TestsFull : {X : Type 0} → (ℕ → Bool) → ℕ → List (Option X) → Type 0
TestsFull {X = X} full b ss = ((i : ℕ) → slice_get ss i ≡ Some None → full (b + i) ≡ false)
    × ((i : ℕ) (x : X) → slice_get ss i ≡ Some (Some x) → full (b + i) ≡ true)

next_index : (b i : ℕ) → b + suc i ≡ (b + 1) + i
next_index b i = omega arith

first_slot : (b : ℕ) → b + 0 ≡ b
first_slot b = omega arith

tells_rest : {X : Type 0} (full : ℕ → Bool) (b : ℕ) (s : Option X) (ss : List (Option X))
    → TestsFull full b (s ∷ ss) → TestsFull full (b + 1) ss
tells_rest full b s ss t = (
  λ i e. ap full (sym (next_index b i))
      ∙ t.0 (suc i) e,
  λ i x e. ap full (sym (next_index b i)) ∙ t.1 (suc i) x e,
)

filter_filled : {X : Type 0} (full : ℕ → Bool) (b : ℕ) (ss : List (Option X)) → TestsFull full b ss
    → filter full (range_with_len b (length ss)) ≡ filled_from b ss
filter_filled full b [] t = refl
filter_filled full b (None ∷ ss) t =
    let e : full b ≡ false = ap full (sym (first_slot b)) ∙ t.0 0 refl in
    rw e (filter_filled full (b + 1) ss (tells_rest full b None ss t))
filter_filled full b (Some x ∷ ss) t =
    let e : full b ≡ true = ap full (sym (first_slot b)) ∙ t.1 0 x refl in
    rw e (ap (λ (l : List ℕ). b ∷ l)
    (filter_filled full (b + 1) ss (tells_rest full b (Some x) ss t)))

-- a list has an item at each index below its length
pub item_below : {X : Type 0} (xs : List X) (i : ℕ) → i < length xs
    → (x : X) × (slice_get xs i ≡ Some x)
item_below [] i h = absurd (omega (arith, h))
item_below (x ∷ xs) zero h = (x, refl)
item_below (x ∷ xs) (suc i) h = item_below xs i (omega (arith, h))

-- a bucket that isn't free is a home bucket
home_of : (homes : List ℕ) (b : ℕ) → is_free homes b ≡ false
    → (i : ℕ) × (i < length homes) × (slice_index homes i ≡ b)
home_of homes b h =
    let a = Any-from_list_any (eqb b) homes (not-false (list_any (eqb b) homes) h) in
    grind (arith, common_steps, eqb-true, get_or_default)

module _ {X : Type 0} (cap : ℕ) (pairs : List (ℕ × X)) (slots : List (Option X)) (controls : List ℕ)
    (p : ArePlaced cap pairs slots controls) where
  below : (b : ℕ) (s : Option X) → slice_get slots b ≡ Some s → b < cap
  below b s e = let l = slice_get_within slots b s e in let n = p.slotted.count in omega arith

  -- the slot of a home bucket has an item
  home_filled : (i b : ℕ) → i < length p.homes → slice_index p.homes i ≡ b
      → (x : X) × (slice_get slots b ≡ Some (Some x))
  home_filled i b h e =
      let a = item_below (items_of pairs) i (let n = p.slotted.items_count in omega arith) in
      (a.0, ap (slice_get slots) (sym e) ∙ p.slotted.at i a.0 a.1)

  empty_slot : (b : ℕ) → slice_get slots b ≡ Some None → is_full (slice_index controls b) ≡ false
  empty_slot b e = elim (cases_Bool (is_free p.homes b)) [
    | inl free ↦ let c = p.written.others b (below b None e) free in
        le-ltb (slice_index controls b) 128 (omega (arith, c))
    | inr taken ↦
        let h = home_of p.homes b taken in
        let a = home_filled h.0 b h.1 h.2 in
        absurd (none-some a.0 (same_Some None (Some a.0) (sym e ∙ a.1)))
  ]

  filled_slot : (b : ℕ) (x : X) → slice_get slots b ≡ Some (Some x)
      → is_full (slice_index controls b) ≡ true
  filled_slot b x e =
      grind (
        arith,
        common_steps,
        cases_Bool,
        none-some,
        same_Some,
        below,
        home_of,
        lt-ltb,
      )

  -- a walk over the control bytes visits the slots with items
  pub walk_filled : walk controls cap ≡ filled_from 0 slots
  unfolding walk
  walk_filled = grind (arith, filter_filled, empty_slot, filled_slot)
