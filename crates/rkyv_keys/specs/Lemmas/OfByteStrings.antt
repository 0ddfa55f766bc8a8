-- Lemmas: byte strings, by their bytes.
use Rattle.std.specs.Prelude.{ℕ, List}
use Rattle.std.proofs.Common.{refl}
use Rattle.std.specs.Int.{Width}
use Rattle.std.specs.Cmp.Lexicographic.{bytes_decides}
use Rattle.rkyv_base.specs.{IsByteStringOf, byte_string_at, byte_string_spec}
use Rattle.rkyv_base.specs.Lemmas.ByteStrings.{byte_string_local}
use Rattle.rkyv_keys.specs.{FitsItsEqual, IsEquivalence, IsKey, IsQuery, RepresentsUniquely}
use Rattle.rkyv_keys.specs.{byte_string_calls, byte_string_fits, byte_string_key_calls}
use Rattle.rkyv_keys.specs.{byte_string_same, same_bytes}
use Rattle.rkyv_keys.specs.Lemmas.OfValues.{value_equivalence, value_fits_its_equal, value_key}
use Rattle.rkyv_keys.specs.Lemmas.OfValues.{value_query}
use Rattle.rkyv_keys.specs.Lemmas.QueryLaws.{native_once}

module _ (w : Width) where
  pub byte_string_equivalence : IsEquivalence (byte_string_spec w) (byte_string_same w)
  byte_string_equivalence =
      value_equivalence (byte_string_spec w) (byte_string_at w) same_bytes bytes_decides

  pub byte_string_key : IsKey (byte_string_spec w) (byte_string_same w) (byte_string_key_calls w)
  byte_string_key =
      value_key (byte_string_spec w) (byte_string_at w) same_bytes bytes_decides byte_string_calls
      (byte_string_local w)

  pub byte_string_fits_its_equal : {Q A : Type 0} (query_value : Q → List ℕ)
      (as_value : A → List ℕ)
      → FitsItsEqual (byte_string_spec w) (IsByteStringOf w as_value)
      (λ q a. same_bytes (query_value q) (as_value a)) (byte_string_fits w query_value)
  byte_string_fits_its_equal =
      value_fits_its_equal (byte_string_spec w) (byte_string_at w) same_bytes

  pub byte_string_query : {Q : Type 0} (as_value : Q → List ℕ)
      → IsQuery (byte_string_spec w) (byte_string_same w) (byte_string_key_calls w)
      (λ q. byte_string_calls (as_value q)) (byte_string_fits w as_value)
  byte_string_query as_value =
      value_query (byte_string_spec w) (byte_string_at w) same_bytes bytes_decides
      byte_string_calls as_value

  -- a byte string represents only values with its bytes
  pub byte_string_once : {Q : Type 0} (as_value : Q → List ℕ)
      → RepresentsUniquely (byte_string_spec w) (IsByteStringOf w as_value)
      (λ q v. same_bytes (as_value q) (as_value v))
  byte_string_once as_value =
      native_once (byte_string_spec w) (IsByteStringOf w as_value)
      (λ q v. same_bytes (as_value q) (as_value v))
      (byte_string_fits w as_value) (byte_string_fits_its_equal as_value as_value)
      (λ v. (bytes_decides (as_value v) (as_value v)).1 refl)
