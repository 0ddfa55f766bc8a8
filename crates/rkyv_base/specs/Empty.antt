-- The unit value.
use Rattle.std.specs.Prelude.{◌≡◌, ℕ, List, []}
use Rattle.rkyv_base.specs.ElementSpecs.{ElementSpec, any_bytes}
use Rattle.rkyv_base.specs.Formats.{Format, no_overflow, nothing_next}

-- the unit value as an element: valid at every position, without bytes
abbrev pub unit_spec : ElementSpec
unit_spec = any_bytes 0 1

-- every position represents the unit value
abbrev pub unit_represents : List ℕ → ℕ → Unit {0} → Type 0
unit_represents b p v = Unit {0}

-- the format of the unit value, which appends nothing and has no bytes
abbrev pub unit_format : Format (Unit {0}) (Unit {0})
unit_format = record {
  parts = λ v p part r. part ≡ [];
  next = nothing_next;
  image = λ v r p out. out ≡ [];
  overflow = no_overflow;
}
