-- The first pair of a list with an accepted key, the view of its value in an archive, and the list
-- with another value in that pair.
use Rattle.std.specs.Prelude.{◌≡◌, ℕ, Bool, List, [], ◌∷◌, MatchOption, None, Ok, Option, Result}
use Rattle.std.specs.Prelude.{Some, cond, map}
use Rattle.std.specs.Borrow.{Bor}
use Rattle.std.specs.Char.{to_ascii_uppercase}
use Rattle.std.specs.Int.{Width}
use Rattle.std.specs.List.{find}
use Rattle.std.specs.Option.{option_map}
use Rattle.rkyv_base.specs.{AtView, Encoding, IsTextOf, ScalarRepresents, bytes_of, pos_of, text_at}
use Rattle.rkyv_base.specs.{value_at}
use Rattle.rkyv_base.specs.declared.view.View.{View}

-- the first pair with an accepted key
abbrev pub first_pair : {A B : Type 0} → (A → Bool) → List (A × B) → Option (A × B)
first_pair accept pairs = find (λ pair. accept pair.0) pairs

-- the value of the first pair with an accepted key
abbrev pub first_value : {A B : Type 0} → (A → Bool) → List (A × B) → Option B
first_value accept pairs = option_map (λ pair. pair.1) (first_pair accept pairs)

-- the list with the value of the first pair with an accepted key changed by `change`
abbrev pub with_first_changed : {A B : Type 0} → (A → Bool) → (B → B) → List (A × B)
    → List (A × B)
with_first_changed accept change [] = []
with_first_changed accept change (pair ∷ rest) =
    cond (accept pair.0) ((pair.0, change pair.1) ∷ rest)
    (pair ∷ with_first_changed accept change rest)

-- the list with `value` in the first pair with an accepted key
abbrev pub with_first : {A B : Type 0} → (A → Bool) → B → List (A × B) → List (A × B)
with_first accept value pairs = with_first_changed accept (λ before. value) pairs

-- the text with each letter from a to z in upper case
abbrev pub uppercase_text : Bor (List ℕ) → Bor (List ℕ)
uppercase_text text = record text { now = map to_ascii_uppercase text.now }

-- the list after a call with this result: if it is `Some(true)`, the text of the first pair with
-- an accepted key is in upper case. Otherwise the list is the same
abbrev pub list_after_uppercase : {A : Type 0} → (A → Bool) → Option Bool
    → List (A × Bor (List ℕ)) → List (A × Bor (List ℕ))
list_after_uppercase accept None pairs = pairs
list_after_uppercase accept (Some inline) pairs =
    cond inline (with_first_changed accept uppercase_text pairs) pairs

-- the view is of the value, or there is neither
abbrev pub IsFoundValue : {V B : Type 0} → (List ℕ → ℕ → B → Type 0) → Option (View V) → Option B
    → Type 0
IsFoundValue represents None None = Unit {0}
IsFoundValue represents (Some view) (Some value) = AtView represents view value
IsFoundValue represents None (Some value) = ⊥
IsFoundValue represents (Some view) None = ⊥

-- the views are of the key and the value of the pair, or there is neither
abbrev pub IsFoundPair : {K V A B : Type 0} → (List ℕ → ℕ → A → Type 0) → (List ℕ → ℕ → B → Type 0)
    → Option (View K × View V) → Option (A × B) → Type 0
IsFoundPair key value None None = Unit {0}
IsFoundPair key value (Some views) (Some pair) =
    AtView key views.0 pair.0 × AtView value views.1 pair.1
IsFoundPair key value None (Some pair) = ⊥
IsFoundPair key value (Some views) None = ⊥

-- the scalar at the view, if there is a view
abbrev pub scalar_found : {N : Type 0} → Encoding N → Option (View N) → Option N
scalar_found e found = option_map (λ view. value_at e (bytes_of view) (pos_of view)) found

-- How native values are found. `represents`: bytes at a position represent a value,
-- `IsFound found value`: the found view is of the value, or there is neither
pub record FoundValues (V B : Type 0) : Type 1 where
  pub represents : List ℕ → ℕ → B → Type 0
  pub IsFound : Option (View V) → Option B → Type 0

-- native values that are found as views. The bytes at a found view represent the value
abbrev pub found_views : {V B : Type 0} → (List ℕ → ℕ → B → Type 0) → FoundValues V B
found_views {B = B} represents = record {
  represents = represents;
  IsFound = λ found value. MatchOption found (value ≡ None)
      (λ view. (x : B) × (value ≡ Some x) × AtView represents view x);
}

-- scalars that are found by their encoding
abbrev pub found_scalars : {N : Type 0} → Encoding N → FoundValues N N
found_scalars e = record {
  represents = ScalarRepresents e;
  IsFound = λ found value. scalar_found e found ≡ value;
}

-- the bytes of the text at the view in an archive of the word, if there is a view
abbrev pub text_bytes_found : {T : Type 0} → Width → Option (View T) → Option (List ℕ)
text_bytes_found w found = option_map (λ view. text_at w (bytes_of view) (pos_of view)) found

-- the bytes of the text, if there is one
abbrev pub text_bytes : Option (Bor (List ℕ)) → Option (List ℕ)
text_bytes text = option_map (λ t. t.now) text

-- texts that are found by their bytes
abbrev pub found_texts : {T : Type 0} → Width → FoundValues T (Bor (List ℕ))
found_texts w = record {
  represents = IsTextOf w (λ text. text.now);
  IsFound = λ found value. text_bytes_found w found ≡ text_bytes value;
}

-- `result`: `Ok` with a text of the same bytes, or with `None` if there is no text
abbrev pub IsTextOk : {E : Type 0} → Option (Bor (List ℕ)) → Result (Option (Bor (List ℕ))) E
    → Type 0
IsTextOk text result = (found : Option (Bor (List ℕ))) × (result ≡ Ok found)
    × (text_bytes found ≡ text_bytes text)

-- each value found as a view is found as a value
abbrev pub FindsByView : {V B : Type 0} → FoundValues V B → Type 0
FindsByView {V} {B} values = (found : Option (View V)) (value : Option B)
    → IsFoundValue values.represents found value → values.IsFound found value
