-- Checks in their order, each with the error of its failure.
use Rattle.std.specs.Prelude.{◌≡◌, ◌⊎◌}
use Rattle.rkyv_container.specs.declared.errors.ContainerError.{ContainerError}

-- `check P e rest`: the condition `P`, the error if it is false, and the checks after it
pub data Checks : Type 1 where
  done : Checks
  check : Type 0 → ContainerError → Checks → Checks

-- the checks of `p`, then the checks of `q`
abbrev pub followed_by : Checks → Checks → Checks
followed_by done q = q
followed_by (check P e rest) q = check P e (followed_by rest q)

-- every condition is true
abbrev pub AllPass : Checks → Type 0
AllPass done = Unit {0}
AllPass (check P e rest) = P × AllPass rest

-- `e` is the error of the first check whose condition is false
abbrev pub FirstFails : Checks → ContainerError → Type 0
FirstFails done e = ⊥
FirstFails (check P x rest) e = ((¬ P) × (e ≡ x)) ⊎ (P × FirstFails rest e)
