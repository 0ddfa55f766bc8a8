-- A stored value of any type is the native value that the bytes represent.
use Rattle.std.proofs.Common.{◌∙◌, ap}
use Rattle.std.specs.Prelude.{List, ℕ}
use Rattle.std.specs.Borrow.{Bor}
use Rattle.std.specs.Int.{Width}
use Rattle.rkyv_base.specs.{Encoding, IsByteStringOf, ScalarRepresents, unit_represents}
use Rattle.ffi_calls.specs.{Agrees, HasNumber, IsAny, IsTextFor, ReadsByteString, ReadsBytes}
use Rattle.ffi_calls.specs.{ReadsNumber, ReadsUnit, TextRepresents}

pub numbers_agree : {N : Type 0} (e : Encoding N)
    → Agrees (ReadsNumber e) (ScalarRepresents e) (HasNumber e)
numbers_agree e b p any value reads represents = reads.0 ∙ ap e.code represents

pub texts_agree : (w : Width) → Agrees (ReadsBytes w) (TextRepresents w) IsTextFor
texts_agree w b p any text reads represents = reads.1 ∙ represents

pub byte_strings_agree : (w : Width)
    → Agrees (ReadsByteString w) (IsByteStringOf w (λ (t : Bor (List ℕ)). t.now)) IsTextFor
byte_strings_agree w b p any value reads represents = reads.1 ∙ represents

pub units_agree : Agrees ReadsUnit unit_represents IsAny
units_agree b p any value reads represents = tt
