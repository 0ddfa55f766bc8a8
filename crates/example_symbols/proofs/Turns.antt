-- One turn of a loop over an iterator.
use Rattle.std.proofs.Common.{◌≡◌, List, [], ◌∷◌, ◌++◌, Option, Some, None, ap, sym, refl, append_assoc, ◌∙◌}
use Rattle.std.specs.List.{cons_option, filter_map}
use Rattle.std.specs.Option.{option_to_list}
use Rattle.std.proofs.lemmas.Iterator.{YieldsList}

module _ {S A B : Type 0} (steps : S → Option A → S → Type 0) (v : A → B) (s t : S) where
  -- the item that the iterator yields is the first of the remaining ones
  pub item_yielded : (x : A) (left : List B) → YieldsList steps v s left → steps s (Some x) t → (rest : List B) × (left ≡ v x ∷ rest) × YieldsList steps v t rest
  item_yielded x [] h step = absurd (h.runs x t step)
  item_yielded x (y ∷ ys) h step = let k = h.runs.1 x t step in (ys, ap (λ z. z ∷ ys) (sym k.0), record { runs = k.1 })

  pub none_yielded : (left : List B) → YieldsList steps v s left → steps s None t → left ≡ []
  none_yielded [] h step = refl
  none_yielded (y ∷ ys) h step = absurd (h.runs.0 t step)

option_first : {C : Type 0} (o : Option C) (ys : List C) → option_to_list o ++ ys ≡ cons_option o ys
option_first None ys = refl
option_first (Some c) ys = refl

-- the items kept from those before `x`, from `x`, and from the rest
pub kept_on : {B C : Type 0} (f : B → Option C) (before after : List C) (x : B) (left rest : List B) (all : List C) → left ≡ x ∷ rest → after ≡ before ++ option_to_list (f x) → before ++ filter_map f left ≡ all → after ++ filter_map f rest ≡ all
kept_on f before after x left rest all e a h =
    ap (λ zs. zs ++ filter_map f rest) a ∙ append_assoc before (option_to_list (f x)) (filter_map f rest) ∙ ap (λ zs. before ++ zs) (option_first (f x) (filter_map f rest)) ∙ ap (λ zs. before ++ filter_map f zs) (sym e) ∙ h
