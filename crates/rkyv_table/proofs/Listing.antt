-- The result of writing exactly the items of a list.
use Rattle.std.proofs.Common.{◌≡◌, ℕ, ap, subst, ◌∙◌, arith, List, [], ◌∷◌, ◌++◌, map, length, length-append, Result, MatchResult}
use Rattle.std.proofs.lemmas.Grind.{common_steps}
use Rattle.std.specs.Iterator.{Drains, Yields, YieldsFirstBy}
use Rattle.std.proofs.lemmas.List.{append-nil, length-map}
use Rattle.rkyv_base.specs.{CauseApplies, Format, Output, SerializeFails, Serialized, end_of, written_as}
use Rattle.rkyv_base.specs.Lemmas.Writing.{fails_under, grows, none_appended}
use Rattle.rkyv_base.specs.declared.errors.WriteError.{WriteError}
use Rattle.rkyv_table.specs.{HasCapacity, OwnCause, WriteItemsFails, WroteItems, YieldsOtherCount, listed}

-- an iterator whose state shows the items that remain
module _ {S A B : Type 0} (view : A → B) (rest : S → List B) where
  left_after : (xs : List A) (s t : S) → Yields (YieldsFirstBy view rest) s xs t → rest s ≡ map view xs ++ rest t
  left_after [] s t e = ap rest e
  left_after (x ∷ xs) s t h = h.1 ∙ ap (λ (l : List B). view x ∷ l) (left_after xs h.0 t h.2)

  pub all_came : (xs : List A) (s : S) → Drains (YieldsFirstBy view rest) s xs → map view xs ≡ rest s
  all_came xs s d = grind (arith, common_steps, left_after, append-nil)

  pub no_other_came : (len : ℕ) (s : S) → length (rest s) ≡ len → (n : ℕ) → YieldsOtherCount (YieldsFirstBy view rest) len s n → ⊥
  no_other_came len s e n h = grind (arith, common_steps, length-map, all_came, left_after, length-append)

-- the input has the items of the list, as many as claimed
module _ {X V R : Type 0} (yields : List X → Type 0) (other : ℕ → Type 0) (value_of : List X → List V) (values : List V) (all : (items : List X) → yields items → value_of items ≡ values)
    (none : (n : ℕ) → other n → ⊥) (len : ℕ) (count : len ≡ length values) (factor : ℕ × ℕ) (max limit : ℕ) (f : Format (List V) R) (o o' : Output) where
  abbrev Whole : Format (List V) R
  Whole = listed max factor f

  has : HasCapacity len factor max → HasCapacity (length values) factor max
  has h = subst (λ n. HasCapacity n factor max) count h

  own_applies : {F : Type 0} (e : WriteError F) → OwnCause len factor max other e → CauseApplies limit (Whole.next values (end_of o)) o o [] e
  own_applies e h = grind (arith, common_steps, has)

  pub results_listed : {F : Type 0} (result : Result R (WriteError F))
      → MatchResult result (WroteItems yields len factor max (written_as value_of f) o o' limit) (WriteItemsFails yields len factor max (written_as value_of f) o o' limit other)
      → MatchResult result (Serialized limit Whole values o o') (SerializeFails limit Whole values o o')
  results_listed result h = grind (arith, common_steps, has, grows, none_appended, own_applies, fails_under)
