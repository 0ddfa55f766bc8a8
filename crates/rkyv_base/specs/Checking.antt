-- The results of a validation.
use Rattle.std.specs.Prelude.{◌≡◌, ℕ, List}
use Rattle.rkyv_base.specs.declared.element.PartRange.{PartRange}
use Rattle.rkyv_base.specs.declared.errors.VerifyError.{VerifyError}
use Rattle.rkyv_base.specs.ElementSpecs.{ElementSpec}

-- `rest`: rest of the range after the parts of the valid value at `p`
abbrev pub Passes : ElementSpec → List ℕ → ℕ → PartRange → PartRange → Type 0
Passes s b p range rest = (rest.hi ≡ range.hi) × s.is_valid b p range.lo range.hi rest.lo

-- `e`: first fault of the bytes at `p`, which are not a valid value
abbrev pub Fails : ElementSpec → List ℕ → ℕ → PartRange → VerifyError → Type 0
Fails s b p range e = s.fails b p range.lo range.hi e
