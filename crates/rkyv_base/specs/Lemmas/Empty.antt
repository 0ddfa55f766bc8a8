-- Lemmas: the unit value.
use Rattle.std.proofs.Common.{arith, inl, refl}
use Rattle.std.proofs.lemmas.Grind.{common_steps}
use Rattle.rkyv_base.specs.{IsElement, IsFormat, RepresentsLocally, unit_format, unit_represents}
use Rattle.rkyv_base.specs.{unit_spec}
use Rattle.rkyv_base.specs.Lemmas.AnyBytes.{any_bytes-element}

pub unit_element : IsElement unit_spec
unit_element = any_bytes-element 0 1 (inl refl) refl (omega arith)

pub unit_local : RepresentsLocally unit_spec unit_represents
unit_local v b c p lo hi l o h same part st = st

pub unit_is_format : IsFormat unit_spec unit_represents unit_format
unit_is_format = grind (arith, common_steps)
