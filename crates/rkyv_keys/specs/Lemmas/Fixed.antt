-- Lemmas: keys that hash alike under every rule for `usize` and `isize`.
use Rattle.std.specs.Prelude.{ℕ, List, [], ◌∷◌, All}
use Rattle.std.proofs.lemmas.List.Elements.{All-cons}
use Rattle.std.proofs.Common.{arith}
use Rattle.std.proofs.lemmas.Grind.{common_steps}
use Rattle.rkyv_scan.specs.{Bytes, HasherCall, IsFixed, U8}
use Rattle.rkyv_base.specs.{ElementSpec, IsElement, entry_spec}
use Rattle.rkyv_keys.specs.Calls.{text_calls}
use Rattle.rkyv_keys.specs.OfEntries.{entry_calls}
use Rattle.rkyv_keys.specs.Lemmas.OfEntries.{valid_key, valid_value}
use Rattle.rkyv_keys.specs.Fixed.{MakesFixedCalls}

pub none_fixed : All IsFixed []
none_fixed k d h = absurd (omega arith)

pub one_fixed : (call : HasherCall) → IsFixed call → All IsFixed (call ∷ [])
one_fixed call h = All-cons IsFixed call [] h none_fixed

pub text_fixed : (t : List ℕ) → All IsFixed (text_calls t)
text_fixed t = All-cons IsFixed (Bytes t) (U8 255 ∷ []) tt (one_fixed (U8 255) tt)

pub entry_fixed : (k v : ElementSpec) → IsElement k → IsElement v
    → (key value : List ℕ → ℕ → List HasherCall)
    → MakesFixedCalls k key → MakesFixedCalls v value
    → MakesFixedCalls (entry_spec k v) (entry_calls k v key value)
entry_fixed k v kl vl key value kf vf b p h = grind (arith, common_steps, valid_key, valid_value)
