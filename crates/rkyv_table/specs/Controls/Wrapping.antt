-- The first control byte that fails to mirror its bucket's control byte.
use Rattle.std.specs.Prelude.{◌≡◌, ℕ, ◌*◌, ◌-◌, ◌<◌, ◌≤◌, List, slice_index}
use Rattle.rkyv_table.specs.Controls.Numbers.{control_count}

-- the control byte at index `q` mirrors its bucket's, or is empty from `2 * cap` on
abbrev pub IsWrappedAt : ℕ → List ℕ → ℕ → Type 0
IsWrappedAt cap controls q = (q < 2 * cap → slice_index controls q ≡ slice_index controls (q - cap))
    × (2 * cap ≤ q → 128 ≤ slice_index controls q)

-- `index`: lowest index from `cap` on whose control byte isn't as it must be
pub record FirstUnwrapped (cap : ℕ) (controls : List ℕ) (index : ℕ) : Type 0 where
  pub from : cap ≤ index
  pub below : index < control_count cap
  pub unlike : IsWrappedAt cap controls index → ⊥
  pub least : (q : ℕ) → cap ≤ q → q < index → IsWrappedAt cap controls q
