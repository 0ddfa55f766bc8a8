-- A key of the tests: a number that is compared and hashed by its low byte.
use Rattle.std.specs.Prelude.{◌≡◌, ℕ, ◌%◌, Bool, nat_eq, List, [], ◌∷◌}
use Rattle.std.specs.Int.{w32}
use Rattle.rkyv_scan.specs.{HasherCall, U8}
use Rattle.rkyv_base.specs.declared.errors.ReadError.TheVariants.{Refused}
use Rattle.rkyv_base.specs.{ElementSpec, ScalarRepresents, number_at, scalar_spec, unsigned}
use Rattle.rkyv_keys.specs.{Comparison, DeserializeErrors, value_calls, value_fits, values_same}

abbrev pub low_spec : ElementSpec
low_spec = scalar_spec (unsigned w32)

-- the low byte of the number at position `p`
abbrev pub low_byte : List ℕ → ℕ → ℕ
low_byte b p = number_at w32 b p % 256

abbrev pub byte_call : ℕ → List HasherCall
byte_call n = U8 n ∷ []

abbrev pub low_same : Comparison
low_same = values_same low_byte nat_eq

abbrev pub low_calls : List ℕ → ℕ → List HasherCall
low_calls = value_calls low_byte byte_call

abbrev pub low_fits : {Q : Type 0} → (Q → ℕ) → Q → List ℕ → ℕ → Bool
low_fits model = value_fits low_byte nat_eq model

-- the whole number represents the value
abbrev pub low_represents : List ℕ → ℕ → ℕ → Type 0
low_represents = ScalarRepresents (unsigned w32)

-- deserializing a number whose low byte is 0 may fail with `Refused 7`
abbrev pub low_fails : DeserializeErrors
low_fails b p e = (e ≡ Refused 7) × (low_byte b p ≡ 0)
