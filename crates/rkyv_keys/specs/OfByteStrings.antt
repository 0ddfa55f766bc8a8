-- Byte strings, by their bytes.
use Rattle.std.specs.Prelude.{◌≡◌, ◌<◌, ◌∷◌, ℕ, Bool, List, [], length}
use Rattle.std.specs.Int.{Width}
use Rattle.rkyv_scan.specs.{Bytes, HasherCall, Usize}
use Rattle.rkyv_base.specs.{byte_string_at}
use Rattle.rkyv_base.specs.declared.errors.ReadError.TheVariants.{Memory}
use Rattle.rkyv_keys.specs.Deserialize.{DeserializeErrors}
use Rattle.rkyv_keys.specs.Equality.{Comparison}
use Rattle.rkyv_keys.specs.OfTexts.{same_bytes}
use Rattle.rkyv_keys.specs.OfValues.{value_calls, value_fits, values_same}

-- the number of bytes, followed by the bytes
abbrev pub byte_string_calls : List ℕ → List HasherCall
byte_string_calls bytes = Usize (length bytes) ∷ Bytes bytes ∷ []

module _ (w : Width) where
  -- the byte strings at both positions have the same bytes
  abbrev pub byte_string_same : Comparison
  byte_string_same = values_same (byte_string_at w) same_bytes

  -- deserializing a byte string fails only if it is not empty and memory could not be allocated
  abbrev pub byte_string_fails : DeserializeErrors
  byte_string_fails b p e = (e ≡ Memory) × (0 < length (byte_string_at w b p))

  -- the calls of the byte string at a position
  abbrev pub byte_string_key_calls : List ℕ → ℕ → List HasherCall
  byte_string_key_calls = value_calls (byte_string_at w) byte_string_calls

  -- the byte string at a position has the bytes of the query
  abbrev pub byte_string_fits : {Q : Type 0} → (Q → List ℕ) → Q → List ℕ → ℕ → Bool
  byte_string_fits as_value = value_fits (byte_string_at w) same_bytes as_value
