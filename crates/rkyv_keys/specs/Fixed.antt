-- Keys that hash alike under every rule for `usize` and `isize`.
use Rattle.std.specs.Prelude.{ℕ, List, All}
use Rattle.rkyv_scan.specs.{HasherCall, IsFixed}
use Rattle.rkyv_base.specs.{ElementSpec, ValidAt}

-- a valid key makes no call for a `usize` or an `isize`
abbrev pub MakesFixedCalls : ElementSpec → (List ℕ → ℕ → List HasherCall) → Type 0
MakesFixedCalls s calls = (b : List ℕ) (p : ℕ) → ValidAt s b p → All IsFixed (calls b p)
