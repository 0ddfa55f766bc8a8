-- A loop that takes items in turn, and pushes a value of each.
use Rattle.std.proofs.Common.{◌≡◌, ◌∙◌, ℕ, ◌+◌, ◌<◌, ◌≤◌, ◌++◌, List, [], ◌∷◌, Some, ap, arith, get_or, length, subst, suc, sym, take, vec_capacity, vec_len}
use Rattle.std.specs.List.{AllZip}
use Rattle.std.specs.Prelude.{All, slice_get}
use Rattle.std.specs.declared.vec.Vec.{Vec}
use Rattle.std.proofs.Math.Seq.{take-suc}
use Rattle.std.proofs.lemmas.List.{take_all}
use Rattle.std.proofs.lemmas.List.Elements.{All-append}
use Rattle.ffi_calls.specs.{FirstUnfit}

-- `R` of the items of two lists, and of one more in each
pub zip_pushed : {I V : Type 0} (R : I → V → Type 0) (xs : List I) (ys : List V) (x : I) (y : V) → AllZip R xs ys → R x y → AllZip R (xs ++ (x ∷ [])) (ys ++ (y ∷ []))
zip_pushed R [] [] x y h r = (r, tt)
zip_pushed R [] (b ∷ ys) x y h r = absurd h
zip_pushed R (a ∷ xs) [] x y h r = absurd h
zip_pushed R (a ∷ xs) (b ∷ ys) x y h r = (h.0, zip_pushed R xs ys x y h.1 r)

module _ {I V : Type 0} (Fits : I → Type 0) (IsOf : I → V → Type 0) (fits_of : (x : I) (y : V) → IsOf x y → Fits x) where
  one_fits : (x : I) → Fits x → All Fits (x ∷ [])
  one_fits x fits k d small = let first : 0 ≡ k = omega arith in subst (λ j. Fits (get_or (x ∷ []) j d)) first fits

  -- items that have values fit
  all_fit : (xs : List I) (ys : List V) → AllZip IsOf xs ys → All Fits xs
  all_fit [] [] h = λ k d small. absurd (omega arith)
  all_fit [] (y ∷ ys) h = absurd h
  all_fit (x ∷ xs) [] h = absurd h
  all_fit (x ∷ xs) (y ∷ ys) h = All-append Fits (x ∷ []) xs (one_fits x (fits_of x y h.0)) (all_fit xs ys h.1)

  -- the first item that does not fit
  pub first_unfit : (IsCause : I → Type 0) (items : List I) (n : ℕ) (item : I) (values : List V) → slice_get items n ≡ Some item → AllZip IsOf (take n items) values → IsCause item → FirstUnfit Fits IsCause items
  first_unfit IsCause items n item values there h cause = (n, (item, there, all_fit (take n items) values h, cause))

-- `items`: the items. `IsOf`: the value of an item
module _ {I V Z : Type 0} (IsOf : I → V → Type 0) (items : List I) where
  -- the values are the values of the first `n` items; the vector has room for the others
  abbrev pub Collecting : ℕ → Vec V Z → Type 0
  Collecting n values = AllZip IsOf (take n items) values.items × (vec_len values ≡ n) × (length items ≤ vec_capacity values)

  pub none_pushed : (values : Vec V Z) → (values.items ≡ []) × (vec_len values ≡ 0) × (length items ≤ vec_capacity values) → Collecting 0 values
  none_pushed values empty = (subst (AllZip IsOf []) (sym empty.0) tt, empty.1, empty.2)

  pub one_pushed : (n : ℕ) (d : I) (before after : Vec V Z) (value : V) → n < length items → IsOf (get_or items n d) value → after.items ≡ before.items ++ (value ∷ []) → vec_len after ≡ vec_len before + 1 → vec_capacity after ≡ vec_capacity before
      → Collecting n before → Collecting (n + 1) after
  one_pushed n d before after value small is pushed len capacity h =
      let next : suc n ≡ n + 1 = omega arith in
      let longer : take n items ++ (get_or items n d ∷ []) ≡ take (n + 1) items = sym (take-suc items n d small) ∙ ap (λ m. take m items) next in
      let zipped = zip_pushed IsOf (take n items) before.items (get_or items n d) value h.0 is in (
        subst (AllZip IsOf (take (n + 1) items)) (sym pushed) (subst (λ xs. AllZip IsOf xs (before.items ++ (value ∷ []))) longer zipped),
        len ∙ ap (λ k. k + 1) h.1,
        subst (λ k. length items ≤ k) (sym capacity) h.2,
      )

  pub all_pushed : (n : ℕ) (values : Vec V Z) → n ≡ length items → Collecting n values → AllZip IsOf items values.items
  all_pushed n values e h = subst (λ xs. AllZip IsOf xs values.items) (take_all n items (omega (arith, e))) h.0
