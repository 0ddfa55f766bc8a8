-- Lemmas: text, by its bytes, inline or out of line.
use Rattle.std.specs.Prelude.{◌≡◌, ℕ, true, List}
use Rattle.std.proofs.Common.{refl, arith}
use Rattle.std.proofs.lemmas.Grind.{common_steps}
use Rattle.std.specs.Int.{Width}
use Rattle.std.specs.Cmp.Lexicographic.{bytes_decides}
use Rattle.rkyv_base.specs.{IsTextOf, text_at, text_spec}
use Rattle.rkyv_base.specs.Lemmas.Text.{text_local}
use Rattle.rkyv_keys.specs.{FitsItsEqual, IsEquivalence, IsKey, IsQuery, MakesFixedCalls}
use Rattle.rkyv_keys.specs.{RepresentsUniquely, same_bytes, text_calls, text_fits}
use Rattle.rkyv_keys.specs.{text_key_calls, text_same}
use Rattle.rkyv_keys.specs.Lemmas.QueryLaws.{native_once}
use Rattle.rkyv_keys.specs.Lemmas.Fixed.{text_fixed}
use Rattle.rkyv_keys.specs.Lemmas.OfValues.{value_equivalence, value_fits_its_equal, value_key}
use Rattle.rkyv_keys.specs.Lemmas.OfValues.{value_query}

bytes_equal_themselves : (x : List ℕ) → same_bytes x x ≡ true
bytes_equal_themselves x = (bytes_decides x x).1 refl

module _ (w : Width) where
  pub text_equivalence : IsEquivalence (text_spec w) (text_same w)
  text_equivalence = value_equivalence (text_spec w) (text_at w) same_bytes bytes_decides

  pub text_key : IsKey (text_spec w) (text_same w) (text_key_calls w)
  text_key = value_key (text_spec w) (text_at w) same_bytes bytes_decides text_calls (text_local w)

  pub text_key_fixed : MakesFixedCalls (text_spec w) (text_key_calls w)
  text_key_fixed b p h = text_fixed (text_at w b p)

  pub text_fits_its_equal : {Q A : Type 0} (query_value : Q → List ℕ) (as_value : A → List ℕ)
      → FitsItsEqual (text_spec w) (IsTextOf w as_value)
      (λ q a. same_bytes (query_value q) (as_value a))
      (text_fits w query_value)
  text_fits_its_equal = value_fits_its_equal (text_spec w) (text_at w) same_bytes

  module _ {Q : Type 0} (as_value : Q → List ℕ) where
    pub text_query : IsQuery (text_spec w) (text_same w) (text_key_calls w)
        (λ q. text_calls (as_value q)) (text_fits w as_value)
    text_query = value_query (text_spec w) (text_at w) same_bytes bytes_decides text_calls as_value

    -- a text represents only values with its bytes
    pub text_once : RepresentsUniquely (text_spec w) (IsTextOf w as_value)
        (λ q v. same_bytes (as_value q) (as_value v))
    text_once =
        grind (arith, common_steps, native_once, text_fits_its_equal, bytes_equal_themselves)
