-- An iterator that passes on the items of another one.
use Rattle.std.proofs.Common.{◌≡◌, ℕ, ap, List, [], ◌∷◌, map, Option, Some, None, Result, MatchResult, arith}
use Rattle.std.proofs.lemmas.Grind.{common_steps}
use Rattle.std.specs.Iterator.{Drains, Yields}
use Rattle.std.proofs.lemmas.List.{length-map}
use Rattle.rkyv_base.specs.{Format, Output, written_as}
use Rattle.rkyv_base.specs.declared.errors.WriteError.{WriteError}
use Rattle.rkyv_table.specs.{OwnCause, WriteItemsFails, WroteItems, YieldsOtherCount}

-- a state of the outer iterator has one of the inner. Each step of the outer is one of the inner,
-- with the item that is seen in it
module _ {T S X Y : Type 0} (inner : T → S) (outer : T → Option X → T → Type 0) (steps : S → Option Y → S → Type 0) (inner_of : X → Y)
    (ends : (s t : T) → outer s None t → steps (inner s) None (inner t)) (gives : (s t : T) (x : X) → outer s (Some x) t → steps (inner s) (Some (inner_of x)) (inner t)) where
  pub yields_through : (xs : List X) (s t : T) → Yields outer s xs t → Yields steps (inner s) (map inner_of xs) (inner t)
  yields_through [] s t e = ap inner e
  yields_through (x ∷ xs) s t h = (inner h.0, gives s h.0 x h.1, yields_through xs h.0 t h.2)

  pub drains_through : (xs : List X) (s : T) → Drains outer s xs → Drains steps (inner s) (map inner_of xs)
  drains_through xs s d = (inner d.0, (inner d.1.0, yields_through xs s d.1.0 d.1.1, ends d.1.0 d.0 d.1.2))

  pub other_through : (len : ℕ) (s : T) (n : ℕ) → YieldsOtherCount outer len s n → YieldsOtherCount steps len (inner s) n
  other_through len s n h = grind (arith, common_steps, length-map, drains_through, yields_through)

-- an error before the first byte, with another test of numbers
pub own_counted : {F : Type 0} (len : ℕ) (factor : ℕ × ℕ) (max : ℕ) (other other' : ℕ → Type 0) → ((n : ℕ) → other n → other' n)
    → (e : WriteError F) → OwnCause len factor max other e → OwnCause len factor max other' e
own_counted len factor max other other' f e h = grind (arith, common_steps)

-- writing the outer items has the result of writing the inner ones
module _ {F X Y V R : Type 0} (inner_of : X → Y) (yields : List X → Type 0) (yields' : List Y → Type 0) (other other' : ℕ → Type 0) (exactly : (xs : List X) → yields xs → yields' (map inner_of xs))
    (counted : (n : ℕ) → other n → other' n) (of_outer : List X → V) (of_inner : List Y → V) (same : (xs : List X) → of_outer xs ≡ of_inner (map inner_of xs))
    (base : Format V R) (len : ℕ) (factor : ℕ × ℕ) (max limit : ℕ) (o o' : Output) where
  pub results_through : (result : Result R (WriteError F))
      → MatchResult result (WroteItems yields len factor max (written_as of_outer base) o o' limit) (WriteItemsFails yields len factor max (written_as of_outer base) o o' limit other)
      → MatchResult result (WroteItems yields' len factor max (written_as of_inner base) o o' limit) (WriteItemsFails yields' len factor max (written_as of_inner base) o o' limit other')
  results_through result h = grind (arith, common_steps, length-map, own_counted)
