-- Walks over the entries of an index map: their invariant, steps and counts.
use Rattle.rkyv_base.specs.declared.element.HasSpec.{Ghosts as Specs}
use Rattle.rkyv_base.specs.declared.width.Word.{Ghosts as Words}
use Rattle.std.specs.Prelude.{◌≡◌, ℕ, ◌+◌, ◌*◌, ◌<◌, ◌^◌, List, length}
use Rattle.std.specs.List.{All}
use Rattle.rkyv_base.specs.{ElementSpec, Viewable}
use Rattle.rkyv_table.specs.{ItemsLeft}
use Rattle.rkyv_index.specs.Map.{index_archive, index_len, key_positions, row}
use Rattle.rkyv_index.specs.declared.map.ArchivedIndexMap.{ArchivedIndexMap}

-- the `left` entries of `size` bytes from `at` on end below 2^64
abbrev pub EndsBelow : ℕ → ℕ → ℕ → Type 0
EndsBelow at size left = at + left * size < 2 ^ 64

-- `left` valid entries of `size` bytes are in a row in the bytes `b`, from `at` on
pub record IsWalk (s : ElementSpec) (b : List ℕ) (at size left : ℕ) : Type 0 where
  pub below : EndsBelow at size left
  pub all_valid : All (Viewable s b) (row size at left)

-- `left`: all entries of the map `m`, in order
abbrev pub WalksAll : {K V H W : Type 0} {ks : Specs K} {vs : Specs V} {wt : Words W}
    → ArchivedIndexMap K V H W ks vs wt → ItemsLeft → Type 0
WalksAll m left = (left.archive ≡ index_archive m) × (left.positions ≡ key_positions m)
    × (length left.positions ≡ index_len m)
