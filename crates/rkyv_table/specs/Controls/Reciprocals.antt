-- The parts of a reciprocal.
use Rattle.std.specs.Prelude.{ℕ}
use Rattle.rkyv_table.specs.declared.controls.reciprocal.Reciprocal.{Reciprocal}

-- the divisor of the reciprocal `r`
abbrev pub divisor_of : Reciprocal → ℕ
divisor_of r = r.divisor
