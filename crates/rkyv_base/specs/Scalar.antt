-- Scalars, which are one little-endian number: numbers, `bool` and `char`.
use Rattle.std.specs.Prelude.{◌≡◌, ℕ, ◌^◌, ◌<◌, ◌⊎◌, ◌↔◌, List, []}
use Rattle.std.specs.Int.{Width, byte_len, to_le_bytes, w16, w32, w64, w8}
use mir.Val.{bits}
use Rattle.rkyv_base.specs.declared.errors.VerifyError.{VerifyError}
use Rattle.rkyv_base.specs.declared.errors.VerifyError.TheVariants.{InvalidValue}
use Rattle.rkyv_base.specs.Bytes.{number_at}
use Rattle.rkyv_base.specs.ElementSpecs.{ElementSpec}
use Rattle.rkyv_base.specs.Formats.{Format, no_overflow, nothing_next}

-- an encoding of the values `V`. `word`: the number's width, `code`: number of a value,
-- `value`: value of a number, `IsCode`: numbers of values
pub record Encoding (V : Type 0) : Type 1 where
  pub word : Width
  pub code : V → ℕ
  pub value : ℕ → V
  pub IsCode : ℕ → Type 0

-- a word of 1, 2, 4 or 8 bytes
abbrev pub IsWord : Width → Type 0
IsWord w = (w ≡ w8) ⊎ (w ≡ w16) ⊎ (w ≡ w32) ⊎ (w ≡ w64)

-- `out`: bytes of the number of `v`, which reads back as `v`
pub record Encodes {V : Type 0} (encoding : Encoding V) (v : V) (out : List ℕ) : Type 0 where
  pub bytes : out ≡ to_le_bytes encoding.word (encoding.code v)
  pub fits : encoding.code v < 2 ^ bits encoding.word
  pub is_code : encoding.IsCode (encoding.code v)
  pub reads_back : encoding.value (encoding.code v) ≡ v

-- the number at `p` encodes a value. A scalar has no parts
abbrev pub IsValidScalar : {V : Type 0} → Encoding V → List ℕ → ℕ → ℕ → ℕ → ℕ → Type 0
IsValidScalar e b p lo hi l = (l ≡ lo) × e.IsCode (number_at e.word b p)

-- `error`: `InvalidValue` of `p`, whose number encodes no value
abbrev pub ScalarFails : {V : Type 0} → Encoding V → List ℕ → ℕ → ℕ → ℕ → VerifyError → Type 0
ScalarFails e b p lo hi error = (error ≡ InvalidValue p) × (e.IsCode (number_at e.word b p) → ⊥)

-- a scalar as an element: one aligned word, whose number encodes a value
abbrev pub scalar_spec : {V : Type 0} → Encoding V → ElementSpec
scalar_spec e = record {
  size = byte_len e.word;
  align = byte_len e.word;
  is_valid = IsValidScalar e;
  fails = ScalarFails e;
}

-- the number at `p` encodes the value `v`
abbrev pub ScalarRepresents : {V : Type 0} → Encoding V → List ℕ → ℕ → V → Type 0
ScalarRepresents e b p v = e.value (number_at e.word b p) ≡ v

-- that a number is a value's is a proposition
abbrev pub AreProps : {V : Type 0} → Encoding V → Type 0
AreProps e = (n : ℕ) → IsProp (e.IsCode n)

-- the spec `s` is the spec of scalars with the encoding `e`
pub record IsScalar {V : Type 0} (s : ElementSpec) (e : Encoding V) : Type 0 where
  pub word : IsWord e.word
  pub size : s.size ≡ byte_len e.word
  pub align : s.align ≡ byte_len e.word
  pub is_valid : (b : List ℕ) (p lo hi l : ℕ) → s.is_valid b p lo hi l ↔ IsValidScalar e b p lo hi l
  pub fails : (b : List ℕ) (p lo hi : ℕ) (error : VerifyError)
      → s.fails b p lo hi error ↔ ScalarFails e b p lo hi error

-- the format of a scalar, which appends nothing before its fixed bytes
abbrev pub scalar_format : {V : Type 0} → Encoding V → Format V Unit
scalar_format e = record {
  parts = λ v p part r. part ≡ [];
  next = nothing_next;
  image = λ v r p out. Encodes e v out;
  overflow = no_overflow;
}
