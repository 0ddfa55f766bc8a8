-- Lemmas: the conditions under which an archive is accepted, and the errors otherwise.
use Rattle.std.specs.Prelude.{ℕ, ◌-◌, List, length}
use Rattle.std.proofs.Common.{arith}
use Rattle.std.proofs.lemmas.Grind.{common_steps}
use Rattle.rkyv_base.specs.{ElementSpec, IsValidArchive, Viewable}

-- the root of an accepted archive
pub root_viewable : (limit : ℕ) (s : ElementSpec) (b : List ℕ) → IsValidArchive limit s b
    → Viewable s b (length b - s.size)
root_viewable limit s b a = grind (arith, common_steps)
