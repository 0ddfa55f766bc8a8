-- Lemmas: enums whose variants have no fields: their derived equality is the identity.
use Rattle.rkyv_keys.specs.{DecidesEquality}
use denote.Enum.Bare.{Bare, same_true, sameb, true_same}
use denote.Enum.Declared.{Declared}

-- the derived `==` of an enum without fields distinguishes its values; `D`: its declaration
pub variants_decide_equality : (D : Declared) → Bare D.parts → DecidesEquality (sameb D)
variants_decide_equality D bare v w = (same_true D bare v w, true_same D v w)
