-- Keys and values of any type, as calls take and store them.
use Rattle.std.specs.Prelude.{◌≡◌, ℕ, ◌<◌, ◌^◌, List, []}
use Rattle.std.specs.Borrow.{Bor}
use Rattle.std.specs.Int.{Width}
use Rattle.std.specs.Str.{IsUtf8}
use mir.Val.{bits}
use Rattle.rkyv_base.specs.{Encoding, IsTextOf, byte_string_at, text_at, value_at}
use Rattle.ffi_calls.specs.declared.any_value.AnyValue.{AnyValue}

-- A stored value at a position is the stored form of the native value that the bytes represent.
-- `reads`: the stored value at a position, `is_of`: a stored value is of a native value
abbrev pub Agrees : {X B : Type 0} → (List ℕ → ℕ → X → Type 0) → (List ℕ → ℕ → B → Type 0)
    → (X → B → Type 0) → Type 0
Agrees {X} {B} reads represents is_of = (b : List ℕ) (p : ℕ) (out : X) (value : B)
    → reads b p out → represents b p value → is_of out value

-- the text at a position is equal to the given one
abbrev pub TextRepresents : Width → List ℕ → ℕ → Bor (List ℕ) → Type 0
TextRepresents w = IsTextOf w (λ text. text.now)

-- a value with the encoding has the number
abbrev pub IsCodeNumber : {N : Type 0} → Encoding N → ℕ → Type 0
IsCodeNumber e number = (number < 2 ^ bits e.word) × e.IsCode number

-- no value with the encoding has the number
abbrev pub IsNoCode : {N : Type 0} → Encoding N → ℕ → Type 0
IsNoCode e number = IsCodeNumber e number → ⊥

-- the value has the number
abbrev pub HasCode : {N : Type 0} → Encoding N → ℕ → N → Type 0
HasCode e number value = IsCodeNumber e number × (number ≡ e.code value)

-- `any` has the number of the value
abbrev pub HasNumber : {N : Type 0} → Encoding N → AnyValue → N → Type 0
HasNumber e any value = any.number ≡ e.code value

-- `any` has the bytes of the text
abbrev pub IsTextFor : AnyValue → Bor (List ℕ) → Type 0
IsTextFor any text = any.bytes.now ≡ text.now

-- the bytes of `any` aren't UTF-8
abbrev pub IsNoText : AnyValue → Type 0
IsNoText any = IsUtf8 any.bytes.now → ⊥

-- each value shows the unit
abbrev pub IsAny : AnyValue → Unit {0} → Type 0
IsAny any unit = Unit

-- no value shows no unit
abbrev pub Never : AnyValue → ℕ → Type 0
Never any status = ⊥

-- `any` has the number of the value at a position, and no bytes
abbrev pub ReadsNumber : {N : Type 0} → Encoding N → List ℕ → ℕ → AnyValue → Type 0
ReadsNumber e b p any = (any.number ≡ e.code (value_at e b p)) × (any.bytes.now ≡ [])

-- `any` has the bytes of the text at a position, and the number 0
abbrev pub ReadsBytes : Width → List ℕ → ℕ → AnyValue → Type 0
ReadsBytes w b p any = (any.number ≡ 0) × (any.bytes.now ≡ text_at w b p)

-- `any` has the bytes of the byte string at a position, and the number 0
abbrev pub ReadsByteString : Width → List ℕ → ℕ → AnyValue → Type 0
ReadsByteString w b p any = (any.number ≡ 0) × (any.bytes.now ≡ byte_string_at w b p)

-- `any` has the number 0, and no bytes
abbrev pub ReadsUnit : List ℕ → ℕ → AnyValue → Type 0
ReadsUnit b p any = (any.number ≡ 0) × (any.bytes.now ≡ [])
